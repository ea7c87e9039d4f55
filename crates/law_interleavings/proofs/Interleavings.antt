-- The laws, by address: what the part asks next is what the frame of that address did next in the whole.
use Rattle.std.proofs.Common.{◌≡◌, ◌⊎◌, inl, inr, ℕ, List, [], ◌∷◌, ◌++◌, length, Option, append_assoc, append-nil, refl, sym, ap, ap₂, ◌∙◌, subst, arith}
use Rattle.model_accesses.specs.declared.request.Act.{Act}
use Rattle.model_strands.specs.Address.{Address}
use Rattle.model_strands.specs.Addresses.{address}
use Rattle.model_histories.specs.declared.answer.Entry.{Entry}
use Rattle.model_histories.specs.Entries.{Entries, control_part}
use Rattle.model_histories.specs.Shapes.{Shape}
use Rattle.model_histories.specs.Legal.{IsLegal}
use Rattle.model_histories.specs.Extensions.{IsFinished}
use Rattle.model_races.specs.Judged.{IsJudged}
use Rattle.model_runs.specs.Frames.{frame_in}
use Rattle.model_runs.specs.Serial.{value_given}
use Rattle.law_interleavings.specs.Fronts.{IsBegun}
use Rattle.law_interleavings.specs.Traces.{Notes, Spoken, spoken_by, beginning, walk, IsLaterOf}
use Rattle.law_interleavings.specs.Asked.{asked_at, values_at, Begins, AsksNoMore}
use Rattle.law_interleavings.specs.Laws.{InterleavingLaw, SameStrandsLaw}
use Rattle.law_interleavings.proofs.Control.{legal_part}
use Rattle.law_interleavings.proofs.Fronts.{active_begun}
use Rattle.law_interleavings.proofs.Spoken.{NoneRefused}
use Rattle.law_interleavings.proofs.Walks.{later_shorter, later_next}
use Rattle.law_interleavings.proofs.Traces.{placed}
use Rattle.law_interleavings.proofs.Parts.{Matching, IsPart, next_deed}
use Rattle.law_interleavings.proofs.AtPlaces.{picked, picked_begins, done_there, entry_home, frame_told, part_begins}
use Rattle.law_interleavings.proofs.Wholes.{begin_both, legal_before, earlier_part, whole_part, finished_whole, same_memory}
use Rattle.law_interleavings.proofs.Induction.{none_refused, is_clean, judged_before, are_parts}

-- no note is kept of an act
abbrev no_note : Notes (Unit {0})
no_note begins entry = tt

abbrev act_in : Spoken (Unit {0}) → Act
act_in one = one.act

abbrev value_in : Spoken (Unit {0}) → Option ℕ
value_in one = one.value

abbrev act_of : Entry → Act
act_of entry = entry.request.act

abbrev value_of_entry : Entry → Option ℕ
value_of_entry entry = value_given entry.answer

same_rest : {X : Type 0} (xs ys zs : List X) → xs ++ ys ≡ xs ++ zs → ys ≡ zs
same_rest [] ys zs e = e
same_rest (x ∷ xs) ys zs e = let f : xs ++ ys ≡ xs ++ zs = cc in same_rest xs ys zs f

same_first : {X : Type 0} (x y : X) (ys zs : List X) → x ∷ ys ≡ y ∷ zs → x ≡ y
same_first x y ys zs e = cc

not_none : {X : Type 0} (x : X) (ys : List X) → x ∷ ys ≡ [] → ⊥
not_none x ys e = cc

-- a history that is shorter by one asks no more
asks_before : (R H : Entries) (e : Entry) → AsksNoMore (e ∷ H) R → AsksNoMore H R
asks_before R H e asks p = less (asked_at H p) _ (asked_at R p) (asks p)
  where
    less : (xs ys all : List Act) → Begins (xs ++ ys) all → Begins xs all
    less xs ys all (r, q) = (ys ++ r, sym (append_assoc xs ys r) ∙ q)

module _ (shape : Shape) (R : Entries) (r : IsLegal shape R) where
  -- the frame goes on in the whole with what the part asks
  abbrev Next : (H : Entries) (e : Entry) → Matching shape no_note no_note R H (frame_in H e.request.strand) → Type 0
  Next H e match =
      (z : Spoken (Unit {0})) × IsLaterOf (z ∷ spoken_by no_note H (frame_in H e.request.strand)) (spoken_by no_note R match.frame) × (z.act ≡ e.request.act)

  goes_on : (H : Entries) (e : Entry) → IsLegal shape (e ∷ H) → AsksNoMore (e ∷ H) R → (match : Matching shape no_note no_note R H (frame_in H e.request.strand)) →
      Next H e match
  goes_on H e l asks match = go (later_next said whole match.did)
    where
      own : ℕ
      own = frame_in H e.request.strand

      said : List (Spoken (Unit {0}))
      said = spoken_by no_note H own

      whole : List (Spoken (Unit {0}))
      whole = spoken_by no_note R match.frame

      p : Address
      p = address (control_part H) e.request.strand

      begin : Address
      begin = beginning (control_part H) own

      begun : IsBegun (control_part H) own
      begun = active_begun (legal_part shape H l.0) e.request.strand (inl l.1.runs)

      before : List Act
      before = picked act_in p begin said

      asked_here : asked_at (e ∷ H) p ≡ before ++ e.request.act ∷ []
      asked_here =
          ap₂ (λ a b. a ++ b) (frame_told shape no_note act_in act_of (λ b x. refl) H l.0 own begun p (entry_home shape no_note H e l))
          (done_there p p e.request.act refl)

      asked_there : asked_at R p ≡ picked act_in p begin whole
      asked_there =
          frame_told shape no_note act_in act_of (λ b x. refl) R r match.frame match.begun p (entry_home shape no_note H e l ∙ match.begins)
          ∙ ap (λ a. picked act_in p a whole) (sym match.begins)

      all : before ++ (e.request.act ∷ (asks p).0) ≡ picked act_in p begin whole
      all = sym (append_assoc before (e.request.act ∷ []) (asks p).0) ∙ ap (λ z. z ++ (asks p).0) (sym asked_here) ∙ (asks p).1 ∙ asked_there

      go : (said ≡ whole) ⊎ ((z : Spoken (Unit {0})) × IsLaterOf (z ∷ said) whole) → Next H e match
      go (inl q) =
          absurd (not_none e.request.act (asks p).0
          (same_rest before (e.request.act ∷ (asks p).0) [] (all ∙ ap (picked act_in p begin) (sym q) ∙ sym (append-nil before))))
      go (inr (z, m)) =
          let b = picked_begins act_in p begin (z ∷ said) whole m in
          let here : (walk begin said).here ≡ p = placed shape no_note H e l in
          let at_z : picked act_in p begin (z ∷ said) ≡ before ++ z.act ∷ [] = ap (λ l. before ++ l) (done_there (walk begin said).here p z.act here) in
          let theirs : before ++ (z.act ∷ b.0) ≡ picked act_in p begin whole =
          sym (append_assoc before (z.act ∷ []) b.0) ∙ ap (λ l. l ++ b.0) (sym at_z) ∙ b.1 in
          (z, m, same_first z.act e.request.act b.0 (asks p).0 (same_rest before (z.act ∷ b.0) (e.request.act ∷ (asks p).0) (theirs ∙ sym all)))

abbrev AsksJudged : Shape → Entries → Entries → Type 0
AsksJudged shape R entries = IsJudged shape entries × AsksNoMore entries R

-- what asks no more is a part, and clean
asked_parts : (shape : Shape) (R : Entries) → IsJudged shape R → NoneRefused R → (H : Entries) → IsJudged shape H → AsksNoMore H R →
    NoneRefused H × IsPart shape no_note no_note R H
asked_parts shape R whole rc H judged asks =
    are_parts shape no_note no_note R whole rc (AsksJudged shape R) (record {
      shorter = λ K e one. (judged_before shape K e one.0, asks_before R K e one.1);
      judged = λ K one. one.0;
      wanted = λ K e one c part.
          let l = one.0.legal in
          let match = part (frame_in K e.request.strand) (active_begun (legal_part shape K l.0) e.request.strand (inl l.1.runs)) in
          let next = goes_on shape R whole.legal K e l one.1 match in
          record { newest = next.0; done = next_deed shape no_note no_note R K e whole.legal match next.0 next.1; act = next.2; note = refl };
    }) H (judged, asks)

pub interleaving_law : InterleavingLaw
interleaving_law shape clean whole c entries judged asks =
    record {
      is_clean = is_clean entries mine.0;
      values = part_begins shape no_note no_note value_in value_of_entry (λ b x. refl) (λ b x. refl) entries clean judged.legal whole.legal mine.1;
      equal = λ f p. begin_both (asked_at entries p) (asked_at clean p) (asks p)
          (part_begins shape no_note no_note act_in act_of (λ b x. refl) (λ b x. refl) clean entries whole.legal judged.legal (back f) p);
      memory = λ f cell below. same_memory shape no_note no_note clean entries whole (none_refused clean c) judged.legal mine.0 mine.1 (back f) cell;
    }
  where
    mine : NoneRefused entries × IsPart shape no_note no_note clean entries
    mine = asked_parts shape clean whole (none_refused clean c) entries judged asks

    back : IsFinished entries → IsPart shape no_note no_note entries clean
    back f = finished_whole shape no_note no_note clean entries whole.legal judged.legal mine.1 f

pub same_strands_law : SameStrandsLaw
same_strands_law shape clean whole c entries judged same = (
  is_clean entries mine.0,
  λ p. begin_both (values_at entries p) (values_at clean p)
      (part_begins shape no_note no_note value_in value_of_entry (λ b x. refl) (λ b x. refl) entries clean judged.legal whole.legal mine.1 p)
      (part_begins shape no_note no_note value_in value_of_entry (λ b x. refl) (λ b x. refl) clean entries whole.legal judged.legal back p),
  λ cell below. same_memory shape no_note no_note clean entries whole (none_refused clean c) judged.legal mine.0 mine.1 back cell,
)
  where
    mine : NoneRefused entries × IsPart shape no_note no_note clean entries
    mine = asked_parts shape clean whole (none_refused clean c) entries judged (λ p. ([], append-nil (asked_at entries p) ∙ same p))

    -- what the clean one begins with asks no more than the other
    early : (K later : Entries) → clean ≡ later ++ K → AsksNoMore K entries
    early K later w p =
        let l = subst (IsLegal shape) w whole.legal in
        subst (Begins (asked_at K p)) (ap (λ z. asked_at z p) (sym w) ∙ sym (same p))
        (part_begins shape no_note no_note act_in act_of (λ b x. refl) (λ b x. refl) K (later ++ K) (legal_before shape later K l) l (earlier_part shape no_note later K l) p)

    back : IsPart shape no_note no_note entries clean
    back =
        whole_part shape no_note no_note clean entries whole.legal judged.legal mine.1
        (λ K e later w k match q.
        let next = goes_on shape entries judged.legal K e k (early (e ∷ K) later w) match in
        let t = later_shorter (next.0 ∷ spoken_by no_note K (frame_in K e.request.strand)) (spoken_by no_note entries match.frame) next.1 in
        let u = ap length q in
        omega (arith, t, u))
