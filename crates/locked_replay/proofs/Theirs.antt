-- Logs whose receipts are those of entries, each once.
use Rattle.std.proofs.Common.{◌≡◌, ◌⊎◌, inl, inr, ℕ, ◌+◌, ◌<◌, Bool, true, false, true≢false, IsTrue, List, [], ◌∷◌, ◌++◌, length, take, drop, get_or, replicate, append-nil, refl, ap, sym, subst, ◌∙◌}
use Rattle.std.specs.Bool.{MatchBool}
use Rattle.std.specs.List.{All, sum_by}
use Rattle.std.specs.List.Sorted.{IsPermutation}
use Rattle.std.proofs.lemmas.Grind.{flat_map-append}
use Rattle.std.proofs.lemmas.List.{take_more, take-append-drop, length-replicate}
use Rattle.std.proofs.lemmas.List.Concat.{length-flat_map}
use Rattle.std.proofs.lemmas.List.Elements.{All-more}
use Rattle.std.proofs.lemmas.List.Sorted.{IsPermutation-refl, length_permutation}
use Rattle.model_histories.specs.declared.answer.Entry.{Entry}
use Rattle.model_histories.specs.declared.reply.Receipt.{Receipt}
use Rattle.locked_replay.specs.declared.worker.WorkerLog.{WorkerLog}
use Rattle.locked_replay.specs.Receipts.{numbered, marked, Rises, AreMarked, AreAstray}
use Rattle.locked_replay.specs.Logs.{all_receipts, AreTheirs}
use Rattle.locked_replay.proofs.Numbered.{length-numbered}
use Rattle.locked_replay.proofs.Marks.{marked_none, marked_all}

pub unmarked : (es : List Entry) → AreMarked (replicate (length es) false) es []
unmarked es = (length-replicate (length es) false, subst (λ (l : List Receipt). IsPermutation [] l) (sym (marked_none (length es) (numbered 1 es))) (IsPermutation-refl []))

module _ {L A : Type 0} (logs : List (WorkerLog L A)) where
  abbrev receipts_in : WorkerLog L A → List Receipt
  receipts_in log = log.receipts.items

  abbrev rises_in : WorkerLog L A → Type 0
  rises_in log = Rises log.receipts.items

  -- one log further
  module _ (i : ℕ) (log : WorkerLog L A) (low : i < length logs) (is : log ≡ get_or logs i log) where
    pub rise_next : All rises_in (take i logs) → rises_in log → All rises_in (take (i + 1) logs)
    rise_next before here = All-more rises_in logs i log low before (subst rises_in is here)

    pub receipts_next : all_receipts (take i logs) ++ log.receipts.items ≡ all_receipts (take (i + 1) logs)
    receipts_next =
        ap (λ (l : WorkerLog L A). all_receipts (take i logs) ++ receipts_in l) is ∙
        ap (λ (l : List Receipt). all_receipts (take i logs) ++ l) (sym (append-nil (receipts_in (get_or logs i log)))) ∙
        sym (flat_map-append receipts_in (take i logs) (get_or logs i log ∷ [])) ∙ ap all_receipts (sym (take_more logs i log low))

    pub not_theirs : (es : List Entry) → (rises_in log → ⊥) ⊎ AreAstray es (all_receipts (take i logs) ++ log.receipts.items) → AreTheirs es logs → ⊥
    not_theirs es (inl falls) theirs = falls (subst rises_in (sym is) (theirs.0 i log low))
    not_theirs es (inr astray) theirs =
        let rest = all_receipts (drop (i + 1) logs) in
        let whole : (all_receipts (take i logs) ++ log.receipts.items) ++ rest ≡ all_receipts logs =
        ap (λ (l : List Receipt). l ++ rest) receipts_next ∙ sym (flat_map-append receipts_in (take (i + 1) logs) (drop (i + 1) logs)) ∙ ap all_receipts (take-append-drop (i + 1) logs) in
        astray rest (subst (λ (l : List Receipt). IsPermutation l (numbered 1 es)) (sym whole) theirs.1)

  abbrev count : ℕ
  count = sum_by (λ (log : WorkerLog L A). length log.receipts.items) logs

  pub theirs_counted : (es : List Entry) → AreTheirs es logs → count ≡ length es
  theirs_counted es theirs = sym (length-flat_map receipts_in logs) ∙ sym (length_permutation (all_receipts logs) (numbered 1 es) theirs.1) ∙ length-numbered 1 es

  -- as many receipts as entries, of which no two are of one entry
  pub all_marked : (marks : List Bool) (es : List Entry) → AreMarked marks es (all_receipts logs) → count ≡ length es → IsPermutation (all_receipts logs) (numbered 1 es)
  all_marked marks es are many =
      let shown = length_permutation (all_receipts logs) (marked marks (numbered 1 es)) are.1 in
      let counted = length-flat_map receipts_in logs in
      subst (λ (l : List Receipt). IsPermutation (all_receipts logs) l)
      (marked_all marks (numbered 1 es) (shown ∙ counted ∙ many ∙ sym (length-numbered 1 es))) are.1

  -- what the marking tells, where there are as many receipts as entries, and where there aren't
  pub told_theirs : (theirs : Bool) (marks : List Bool) (es : List Entry) → MatchBool theirs (All rises_in logs × AreMarked marks es (all_receipts logs)) (AreTheirs es logs → ⊥) →
      count ≡ length es → (IsTrue theirs → AreTheirs es logs) × (AreTheirs es logs → IsTrue theirs)
  told_theirs true marks es are many = (λ t. (are.0, all_marked marks es are.1 many), λ is. refl)
  told_theirs false marks es not many = (λ t. absurd (true≢false (sym t)), λ is. absurd (not is))

  pub told_others : (es : List Entry) → (count ≡ length es → ⊥) → (IsTrue false → AreTheirs es logs) × (AreTheirs es logs → IsTrue false)
  told_others es few = (λ t. absurd (true≢false (sym t)), λ is. absurd (few (theirs_counted es is)))
