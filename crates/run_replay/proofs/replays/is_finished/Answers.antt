use Rattle.std.proofs.Common.{◌≡◌, ℕ, ◌-◌, ◌<◌, List, [], ◌∷◌, Some, length, reverse, get_or, refl, sym, ap, subst, ◌∙◌, arith}
use Rattle.std.specs.List.{slice_get}
use Rattle.std.proofs.lemmas.List.{get_or-reverse, length-reverse}
use Rattle.std.proofs.lemmas.Option.{get_or_from_slice_get}
use Rattle.model_histories.specs.declared.answer.Answer.{Answer}
use Rattle.model_histories.specs.declared.answer.Answer.TheVariants.{Finished}
use Rattle.model_histories.specs.declared.answer.Entry.{Entry}
use Rattle.model_histories.specs.Entries.{Entries}
use Rattle.model_histories.specs.Extensions.{IsEnd, IsFinished}
use Rattle.run_replay.proofs.replays.is_finished.Goals as goal

abbrev EndsBy : Entry → Entries → Type 0
EndsBy entry entries = (IsEnd entry.answer → IsFinished entries) × (IsFinished entries → IsEnd entry.answer)

newest : (entries : Entries) (d : Entry) → 0 < length entries → EndsBy (get_or entries 0 d) entries
newest [] d some = absurd (omega (arith, some))
newest (entry ∷ entries) d some = (λ is. is, λ is. is)

-- whether the run is finished is told by the last of the entries
last : (items : List Entry) (count : ℕ) (entry : Entry) → count ≡ length items → 0 < count → slice_get items (count - 1) ≡ Some entry → EndsBy entry (reverse items)
last items count entry counted some is =
    let place : length items - 1 - 0 ≡ count - 1 = omega (arith, counted) in
    let here : get_or (reverse items) 0 entry ≡ entry =
    get_or-reverse items 0 entry (omega (arith, counted, some)) ∙ ap (λ n. get_or items n entry) place ∙ get_or_from_slice_get items (count - 1) entry entry is in
    subst (λ (e : Entry). EndsBy e (reverse items)) here (newest (reverse items) entry (omega (arith, counted, some, length-reverse items)))

end_is : (answer : Answer) → IsEnd answer → answer ≡ Finished
end_is Finished is = refl
end_is answer is = absurd is

pub returns-in-Finished : goal.returns-in-Finished
returns-in-Finished g c =
    let ends = last c.args.entries.now.items c.len-count.result c.get.result c.len-count.ensures c.if-count-gt0.true c.get.ensures in (
      (λ is. ends.0 (subst IsEnd (sym c.in-Finished.is) tt)),
      (λ is. refl),
    )

pub returns-in_default : goal.returns-in_default
returns-in_default g c =
    let ends = last c.args.entries.now.items c.len-count.result c.get.result c.len-count.ensures c.if-count-gt0.true c.get.ensures in (
      (λ is. absurd (cc)),
      (λ is. absurd (c.in_default.not-Finished (end_is c.get.result.answer (ends.1 is)))),
    )
