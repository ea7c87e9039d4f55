-- What one reducer sees of the steps has all their events, and is as legal.
use Rattle.std.proofs.Common.{◌≡◌, ◌≢◌, ◌↔◌, inl, inr, ℕ, [], ◌∷◌, cond, eqb, refl, sym, ap, subst}
use Rattle.std.proofs.lemmas.Bool.Decides.{eqb_tells}
use Rattle.model_strands.specs.History.{History}
use Rattle.model_reducers.specs.Items as one
use Rattle.model_reducers.specs.Items.{Item, Items, control_events}
use Rattle.law_values.specs.Items.{IsAllowed, AreLegalItems}
use Rattle.model_reducers.specs.Steps.{control, update, put, other, Steps, items_of}
use Rattle.law_values.specs.Accesses.{control_steps, AreLegal}
use Rattle.law_values.specs.Laws.{ProjectionLaw}

-- an access of the reducer, or of another one
pub item_cases : (P : Item → Type 0) (asked reducer : ℕ) (here there : Item) → (asked ≡ reducer → P here) → (asked ≢ reducer → P there) →
    P (cond (eqb asked reducer) here there)
item_cases P asked reducer here there a b = elim (eqb_tells asked reducer) [ inl t ↦ rw t.0 (a t.1) | inr t ↦ rw t.0 (b t.1) ]

same_events : (reducer : ℕ) (steps : Steps) → control_events (items_of reducer steps) ≡ control_steps steps
same_events reducer [] = refl
same_events reducer (control e ∷ steps) = ap (λ h. e ∷ h) (same_events reducer steps)
same_events reducer (update s asked v ∷ steps) =
    item_cases (λ i. control_events (i ∷ items_of reducer steps) ≡ control_steps steps) asked reducer (one.update s v) (one.other s)
    (λ e. same_events reducer steps) (λ ne. same_events reducer steps)
same_events reducer (put s asked v ∷ steps) =
    item_cases (λ i. control_events (i ∷ items_of reducer steps) ≡ control_steps steps) asked reducer (one.put s v) (one.other s)
    (λ e. same_events reducer steps) (λ ne. same_events reducer steps)
same_events reducer (other s ∷ steps) = same_events reducer steps

-- an item is allowed alike after histories that are the same
legal_cons : (items : Items) (item : Item) (whole : Type 0) (history : History) → control_events items ≡ history → AreLegalItems items ↔ whole →
    AreLegalItems (item ∷ items) ↔ (whole × IsAllowed history item)
legal_cons items item whole history e k = (
  (λ l. (k.0 l.0, subst (λ h. IsAllowed h item) e l.1)),
  (λ l. (k.1 l.0, subst (λ h. IsAllowed h item) (sym e) l.1)),
)

same_legal : (reducer : ℕ) (steps : Steps) → AreLegalItems (items_of reducer steps) ↔ AreLegal steps
same_legal reducer [] = (λ l. l, λ l. l)
same_legal reducer (control e ∷ steps) =
    legal_cons (items_of reducer steps) (one.control e) (AreLegal steps) (control_steps steps) (same_events reducer steps) (same_legal reducer steps)
same_legal reducer (update s asked v ∷ steps) =
    item_cases (λ i. AreLegalItems (i ∷ items_of reducer steps) ↔ AreLegal (update s asked v ∷ steps)) asked reducer (one.update s v) (one.other s)
    (λ e. legal_cons (items_of reducer steps) (one.update s v) (AreLegal steps) (control_steps steps) (same_events reducer steps) (same_legal reducer steps))
    (λ ne. legal_cons (items_of reducer steps) (one.other s) (AreLegal steps) (control_steps steps) (same_events reducer steps) (same_legal reducer steps))
same_legal reducer (put s asked v ∷ steps) =
    item_cases (λ i. AreLegalItems (i ∷ items_of reducer steps) ↔ AreLegal (put s asked v ∷ steps)) asked reducer (one.put s v) (one.other s)
    (λ e. legal_cons (items_of reducer steps) (one.put s v) (AreLegal steps) (control_steps steps) (same_events reducer steps) (same_legal reducer steps))
    (λ ne. legal_cons (items_of reducer steps) (one.other s) (AreLegal steps) (control_steps steps) (same_events reducer steps) (same_legal reducer steps))
same_legal reducer (other s ∷ steps) =
    legal_cons (items_of reducer steps) (one.other s) (AreLegal steps) (control_steps steps) (same_events reducer steps) (same_legal reducer steps)

pub projection_law : ProjectionLaw
projection_law reducer steps = (same_events reducer steps, same_legal reducer steps)
