-- The control part of a legal history, and what of it stays as it grows.
use Rattle.std.proofs.Common.{◌↔◌, inl, inr, ℕ, Option, Some, None, [], ◌∷◌, ◌++◌, Contains, append_assoc, refl, sym, ap, ◌∙◌, subst, arith}
use Rattle.std.specs.Prelude.{MatchOption, ◌<◌}
use Rattle.model_strands.specs.History.{Event, History}
use Rattle.model_strands.specs.Strands.{Begun}
use Rattle.model_strands.specs.Legal.{Allowed, Legal, start, then as grown}
use Rattle.model_strands.specs.Dag.{IsParallel}
use Rattle.model_strands.specs.Extensions.{Extends}
use Rattle.law_addresses.proofs.Extremes.{contains-cases}
use Rattle.law_strands.proofs.Branches.{stability_law}
use Rattle.model_histories.specs.declared.answer.Entry.{Entry}
use Rattle.model_histories.specs.Entries.{Entries, event_of, with_event, control_part}
use Rattle.model_histories.specs.Shapes.{Shape}
use Rattle.model_histories.specs.Legal.{IsLegal}

pub none_in : {X : Type 0} (x : X) → Contains [] x → ⊥
none_in x h = let below : h.0 < 0 = h.1 in absurd (omega arith)

legal_with : (event : Option Event) (history : History) → Legal history → MatchOption event (Unit {0}) (Allowed history) → Legal (with_event event history)
legal_with (Some event) history legal allowed = grown legal allowed
legal_with None history legal allowed = legal

pub legal_part : (shape : Shape) (entries : Entries) → IsLegal shape entries → Legal (control_part entries)
legal_part shape [] legal = start
legal_part shape (entry ∷ entries) legal = legal_with (event_of entry) (control_part entries) (legal_part shape entries legal.0) legal.1.allowed

extends_with : (event : Option Event) (history : History) → Extends (with_event event history) history
extends_with (Some event) history = (event ∷ [], refl)
extends_with None history = ([], refl)

pub extends_self : (history : History) → Extends history history
extends_self history = ([], refl)

pub extends_further : (whole longer history : History) → Extends whole longer → Extends longer history → Extends whole history
extends_further whole longer history (later, is) (middle, was) = (later ++ middle, append_assoc later middle history ∙ ap (λ h. later ++ h) was ∙ is)

-- what goes on from one more entry goes on from those before it
pub extends_earlier : (whole : History) (entry : Entry) (entries : Entries) → Extends whole (control_part (entry ∷ entries)) → Extends whole (control_part entries)
extends_earlier whole entry entries ext =
    extends_further whole (control_part (entry ∷ entries)) (control_part entries) ext (extends_with (event_of entry) (control_part entries))

pub extends_all : (later entries : Entries) → Extends (control_part (later ++ entries)) (control_part entries)
extends_all [] entries = extends_self (control_part entries)
extends_all (entry ∷ later) entries =
    extends_further (control_part (entry ∷ later ++ entries)) (control_part (later ++ entries)) (control_part entries)
    (extends_with (event_of entry) (control_part (later ++ entries))) (extends_all later entries)

-- strands that have begun are parallel as they were
pub parallel_stays : (history whole : History) → Extends whole history → Legal whole → (strand other : ℕ) → Begun history strand → Begun history other →
    IsParallel history strand other ↔ IsParallel whole strand other
parallel_stays h w ext legal s t bs bt =
    let to = ((stability_law h w ext legal s bs).1 t bt).reach in
    let back = ((stability_law h w ext legal t bt).1 s bs).reach in
    ((λ p. ((λ r. p.0 (to.0 r)), (λ r. p.1 (back.0 r)))), (λ p. ((λ r. p.0 (to.1 r)), (λ r. p.1 (back.1 r)))))

-- the strands of entries have begun
pub begun_by : (shape : Shape) (entries : Entries) → IsLegal shape entries → (entry : Entry) → Contains entries entry → Begun (control_part entries) entry.request.strand
begun_by shape [] legal one h = absurd (none_in one h)
begun_by shape (e ∷ es) legal one h =
    let stays : (strand : ℕ) → Begun (control_part es) strand → Begun (control_part (e ∷ es)) strand =
    λ strand begun. (stability_law (control_part es) (control_part (e ∷ es)) (extends_all (e ∷ []) es) (legal_part shape (e ∷ es) legal) strand begun).0.begun in
    elim (contains-cases e one es h) [
      | inl is ↦ stays one.request.strand (subst (λ (x : Entry). Begun (control_part es) x.request.strand) (sym is) (inl legal.1.runs))
      | inr k ↦ stays one.request.strand (begun_by shape es legal.0 one k)
    ]
