-- Each strand that asked for something has begun.
use Rattle.std.proofs.Common.{◌≡◌, ◌⊎◌, inl, inr, ℕ, ◌+◌, ◌<◌, ◌≤◌, List, [], ◌∷◌, ◌++◌, length, get_or, reverse, Option, Some, None, sym, ap, ◌∙◌, subst, arith}
use Rattle.std.proofs.Math.ListN.{get_or-append}
use Rattle.std.proofs.Math.Seq.{get_or-append_seam}
use Rattle.std.proofs.lemmas.List.{length-reverse, reverse-append, reverse-reverse}
use Rattle.model_strands.specs.History.{Event, History}
use Rattle.model_strands.specs.Strands.{Begun}
use Rattle.model_strands.specs.Legal.{Legal}
use Rattle.law_strands.proofs.Places.{below_or_beyond}
use Rattle.law_strands.proofs.Kept.{begun_stays}
use Rattle.model_histories.specs.declared.answer.Entry.{Entry}
use Rattle.model_histories.specs.Entries.{Entries, event_of, with_event, control_part}
use Rattle.model_histories.specs.Shapes.{Shape}
use Rattle.model_histories.specs.Legal.{IsLegal}
use Rattle.race_gate.proofs.Races.{legal-part}
use Rattle.race_pairs.specs.Makers.{HasNumber}

begun_with : (event : Option Event) (history : History) → Legal (with_event event history) → (strand : ℕ) → Begun history strand →
    Begun (with_event event history) strand
begun_with (Some event) h l x b = begun_stays l x b
begun_with None h l x b = b

-- the strand of an entry has begun
pub asked_begun : (shape : Shape) (entries : Entries) → IsLegal shape entries → (number : ℕ) (one : Entry) → HasNumber entries number one →
    Begun (control_part entries) one.request.strand
asked_begun shape [] l number one k = absurd k
asked_begun shape (entry ∷ entries) l number one (inl k) =
    subst (λ (e : Entry). Begun (control_part (entry ∷ entries)) e.request.strand) (sym k.1)
    (begun_with (event_of entry) (control_part entries) (legal-part shape (entry ∷ entries) l) entry.request.strand (inl l.1.runs))
asked_begun shape (entry ∷ entries) l number one (inr k) =
    begun_with (event_of entry) (control_part entries) (legal-part shape (entry ∷ entries) l) one.request.strand
    (asked_begun shape entries l.0 number one k)

has_number : (entries : Entries) (i : ℕ) (d : Entry) → i < length entries → HasNumber entries (i + 1) (get_or (reverse entries) i d)
has_number [] i d below = absurd (omega arith)
has_number (entry ∷ entries) i d below =
    subst (HasNumber (entry ∷ entries) (i + 1)) (sym is) (go (λ lt. has_number entries i d lt) (below_or_beyond i (length entries)))
  where
    is : get_or (reverse (entry ∷ entries)) i d ≡ get_or (reverse entries ++ (entry ∷ [])) i d
    is = ap (λ (xs : Entries). get_or xs i d) (reverse-append (entry ∷ []) entries)

    go : (i < length entries → HasNumber entries (i + 1) (get_or (reverse entries) i d)) → (i < length entries) ⊎ (length entries ≤ i) →
        HasNumber (entry ∷ entries) (i + 1) (get_or (reverse entries ++ (entry ∷ [])) i d)
    go ih (inl lt) =
        let within : i < length (reverse entries) = omega (arith, length-reverse entries) in
        inr (subst (HasNumber entries (i + 1)) (sym (get_or-append (reverse entries) (entry ∷ []) d i within)) (ih lt))
    go ih (inr ge) =
        let here : i ≡ length (reverse entries) = omega (arith, length-reverse entries) in
        inl (omega arith, ap (λ (n : ℕ). get_or (reverse entries ++ (entry ∷ [])) n d) here ∙ get_or-append_seam (reverse entries) entry [] d)

-- so it is of the entries in a slice, the oldest first
pub told_begun : (shape : Shape) (told : List Entry) → IsLegal shape (reverse told) → (i : ℕ) (d : Entry) → i < length told →
    Begun (control_part (reverse told)) (get_or told i d).request.strand
told_begun shape told l i d below =
    let within : i < length (reverse told) = omega (arith, length-reverse told) in
    let back : get_or (reverse (reverse told)) i d ≡ get_or told i d = ap (λ (xs : Entries). get_or xs i d) (reverse-reverse told) in
    asked_begun shape (reverse told) l (i + 1) (get_or told i d) (subst (HasNumber (reverse told) (i + 1)) back (has_number (reverse told) i d within))
