-- Where a part leaves nothing of its frames undone, it did all that the whole did.
use Rattle.std.proofs.Common.{◌≡◌, ◌⊎◌, inl, inr, ℕ, List, [], ◌∷◌, ◌++◌, append_assoc, append-nil, refl, sym, ap, ◌∙◌, subst}
use Rattle.model_histories.specs.declared.answer.Entry.{Entry}
use Rattle.model_histories.specs.Entries.{Entries, control_part}
use Rattle.model_histories.specs.Shapes.{Shape}
use Rattle.model_histories.specs.Legal.{IsLegal}
use Rattle.model_histories.specs.Extensions.{IsFinished}
use Rattle.model_races.specs.Memory.{cell_value}
use Rattle.model_races.specs.Judged.{IsJudged}
use Rattle.model_runs.specs.Frames.{frame_in, next_frame}
use Rattle.law_interleavings.specs.Fronts.{IsBegun}
use Rattle.law_interleavings.specs.Traces.{Notes, Spoken, spoken_of, spoken_by, beginning, occurrence_of, trace, IsLaterOf}
use Rattle.law_interleavings.specs.Asked.{Begins}
use Rattle.law_interleavings.proofs.Control.{legal_part}
use Rattle.law_interleavings.proofs.Fronts.{active_begun}
use Rattle.law_interleavings.proofs.Swaps.{Member}
use Rattle.law_interleavings.proofs.Beginnings.{beginning_alone}
use Rattle.law_interleavings.proofs.Spoken.{NoneRefused, spoken_here}
use Rattle.law_interleavings.proofs.Walks.{later_self, later_transitive, later_same, later_next}
use Rattle.law_interleavings.proofs.Traces.{frame_on, spoken_longer}
use Rattle.law_interleavings.proofs.Parts.{Matching, IsPart, included, part_first, part_more, next_deed, does_more}
use Rattle.law_interleavings.proofs.Cells.{same_cell}

-- lists of which each begins with the other are the same
pub begin_both : {X : Type 0} (xs ys : List X) → Begins xs ys → Begins ys xs → xs ≡ ys
begin_both {X = X} xs ys (r, p) (s, q) = sym (append-nil xs) ∙ ap (λ z. xs ++ z) (sym (nothing r s (sym (append_assoc xs r s) ∙ ap (λ z. z ++ s) p ∙ q))) ∙ p
  where
    none : (r s : List X) → r ++ s ≡ [] → r ≡ []
    none [] s e = refl
    none (x ∷ r) s e = cc

    cancel : (xs zs : List X) → xs ++ zs ≡ xs → zs ≡ []
    cancel [] zs e = e
    cancel (x ∷ xs) zs e = let f : xs ++ zs ≡ xs = cc in cancel xs zs f

    nothing : (r s : List X) → xs ++ (r ++ s) ≡ xs → r ≡ []
    nothing r s e = none r s (cancel xs (r ++ s) e)

-- what a legal history begins with is legal
pub legal_before : (shape : Shape) (later K : Entries) → IsLegal shape (later ++ K) → IsLegal shape K
legal_before shape [] K l = l
legal_before shape (d ∷ later) K l = legal_before shape later K l.0

module _ {Note : Type 0} (shape : Shape) where
  -- what a history begins with is a part of it
  pub earlier_part : (T : Notes Note) (later K : Entries) → IsLegal shape (later ++ K) → IsPart shape T T (later ++ K) K
  earlier_part T [] K l own b = record { frame = own; begun = b; begins = refl; did = later_self (spoken_by T K own) }
  earlier_part T (d ∷ later) K l own b =
      let m = earlier_part T later K l.0 own b in
      let t = frame_on shape T (later ++ K) d l m.frame m.begun in
      record {
        frame = m.frame;
        begun = t.0;
        begins = m.begins ∙ sym t.1;
        did = spoken_longer shape T d (later ++ K) m.frame (spoken_by T K own) m.did;
      }

  module _ (mine T : Notes Note) (R H : Entries) (r : IsLegal shape R) (l : IsLegal shape H) (part : IsPart shape mine T R H) where
    -- the part is never at its end in a frame in which the whole goes on
    abbrev pub NeverLess : Type 0
    NeverLess =
        (K : Entries) (e : Entry) (later : Entries) → R ≡ later ++ e ∷ K → IsLegal shape (e ∷ K) →
        (match : Matching shape T mine H K (frame_in K e.request.strand)) → spoken_by T K (frame_in K e.request.strand) ≡ spoken_by mine H match.frame → ⊥

    -- the deed with which the whole goes on is one of the part
    done_too : (K : Entries) (e : Entry) (later : Entries) → R ≡ later ++ e ∷ K → IsLegal shape (e ∷ K) → NeverLess → IsPart shape T mine H K →
        Member (trace mine H) (occurrence_of T K e)
    done_too K e later w k never before = go (later_next said (spoken_by mine H match.frame) match.did)
      where
        own : ℕ
        own = frame_in K e.request.strand

        said : List (Spoken Note)
        said = spoken_by T K own

        begun : IsBegun (control_part K) own
        begun = active_begun (legal_part shape K k.0) e.request.strand (inl k.1.runs)

        match : Matching shape T mine H K own
        match = before own begun

        there : Matching shape mine T R H match.frame
        there = part match.frame match.begun

        on : IsBegun (control_part (e ∷ K)) own × (beginning (control_part (e ∷ K)) own ≡ beginning (control_part K) own)
        on = frame_on shape T K e k own begun

        whole : Matching shape T T R (e ∷ K) own
        whole = subst (λ z. IsPart shape T T z (e ∷ K)) (sym w) (earlier_part T later (e ∷ K) (subst (IsLegal shape) w r)) own on.0

        one : whole.frame ≡ there.frame
        one = beginning_alone (legal_part shape R r) whole.frame there.frame whole.begun there.begun (sym whole.begins ∙ on.1 ∙ match.begins ∙ there.begins)

        x : Spoken Note
        x = spoken_of T (next_frame K) e

        newest : IsLaterOf (x ∷ said) (spoken_by T R there.frame)
        newest = subst (λ f. IsLaterOf (x ∷ said) (spoken_by T R f)) one
            (subst (λ zs. IsLaterOf zs (spoken_by T R whole.frame)) (spoken_here T e K own refl) whole.did)

        go : (said ≡ spoken_by mine H match.frame) ⊎ ((z : Spoken Note) × IsLaterOf (z ∷ said) (spoken_by mine H match.frame)) → Member (trace mine H) (occurrence_of T K e)
        go (inl q) = absurd (never K e later w k match q)
        go (inr (z, m)) =
            let far = later_transitive (z ∷ said) (spoken_by mine H match.frame) (spoken_by T R there.frame) m there.did in
            let lists : z ∷ said ≡ x ∷ said = later_same (z ∷ said) (x ∷ said) (spoken_by T R there.frame) far newest refl in
            let same : z ≡ x = cc in
            subst (Member (trace mine H)) (λ i. record { begin = (occurrence_of T K e).begin; newest = same i; earlier = said }) (next_deed shape T mine H K e l match z m)

    whole_by : NeverLess → (K later : Entries) → R ≡ later ++ K → IsPart shape T mine H K
    whole_by never [] later w = part_first shape T mine H l
    whole_by never (e ∷ K) later w =
        let before = whole_by never K (later ++ e ∷ []) (w ∙ sym (append_assoc later (e ∷ []) K)) in
        let k = legal_before shape later (e ∷ K) (subst (IsLegal shape) w r) in
        part_more shape T mine H K e k l before (done_too K e later w k never before)

    pub whole_part : NeverLess → IsPart shape T mine H R
    whole_part never = whole_by never R [] refl

    -- so it is where the part is finished
    pub finished_whole : IsFinished H → IsPart shape T mine H R
    finished_whole f = whole_part (λ K e later w k match q. does_more shape T mine H l f K e k match q)

  -- histories that are parts of each other leave the same memory, where one is judged and both are clean
  pub same_memory : (mine T : Notes Note) (R H : Entries) → IsJudged shape R → NoneRefused R → IsLegal shape H → NoneRefused H → IsPart shape mine T R H →
      IsPart shape T mine H R → (cell : ℕ) → cell_value H cell ≡ cell_value R cell
  same_memory mine T R H whole rc l c part back cell =
      same_cell shape T R whole.legal whole.memory rc mine T H R l c whole.legal rc cell
      (λ x m t. let there = included shape mine T R H l whole.legal part x m in (there, there))
      (λ x m t. included shape T mine H R whole.legal l back x m)
