-- What `Views` holds, and the lists of steps that it follows.
use Rattle.std.specs.Prelude.{◌≡◌, ◌↔◌, ◌<◌, ◌^◌, ℕ, Bool, List, [], ◌∷◌, length}
use Rattle.model_reducers.specs.declared.monoid.Monoid.{Monoid}
use Rattle.model_strands.specs.declared.spawned.Spawned.{Spawned}
use Rattle.model_strands.specs.History.{Event, split, same, waits, call, resumed, ended, finished}
use Rattle.model_strands.specs.Strands.{unused}
use Rattle.model_strands.specs.Legal.{Allowed}
use Rattle.model_reducers.specs.Steps.{Steps, control, update, put, other, items_of}
use Rattle.law_values.specs.Accesses.{control_steps, AreLegal}
use Rattle.model_reducers.specs.Entries.{Entry}
use Rattle.law_values.specs.Views.{view}
use Rattle.law_values.specs.GetValues.{IsGranted}
use Rattle.model_reducers.specs.GetValues.{IsValue}
use Rattle.model_reducers.specs.declared.view.View.{View}
use Rattle.model_reducers.specs.Products.{reducer_of, monoid_of}
use Rattle.reducer_views.specs.Pieces.{Kept, home_at, later_at, view_in}
use Rattle.reducer_views.specs.Homes.{home, later, IsCurrent}

pub record Holding : Type 0 where
  pub monoids : List Monoid
  pub strands : List Kept
  pub has_room : Bool

-- the view of a strand in the steps
abbrev pub view_of : List Monoid → ℕ → Steps → ℕ → View
view_of monoids reducer steps strand = view (reducer_of (monoid_of monoids reducer)) (items_of reducer steps) strand

-- what is held are the views after these steps: that of each current strand lies at its home
pub record Holds (holding : Holding) (steps : Steps) : Type 0 where
  pub count : length holding.strands ≡ unused (control_steps steps)
  pub homes : (strand : ℕ) → strand < unused (control_steps steps) → home_at holding.strands strand ≡ home (control_steps steps) strand
  pub laters : (strand : ℕ) → strand < unused (control_steps steps) → later_at holding.strands strand ≡ later (control_steps steps) strand
  pub views : (strand : ℕ) → IsCurrent (control_steps steps) strand → (reducer : ℕ) →
      view_in holding.monoids holding.strands (home (control_steps steps) strand) reducer ≡ view_of holding.monoids reducer steps strand

abbrev pub split_of : ℕ → Spawned → Event
split_of strand spawned = split strand spawned.child spawned.next spawned.join spawned.first

-- an event of control that begins no strand
abbrev pub IsQuiet : Event → Type 0
IsQuiet (same strand) = Unit {0}
IsQuiet (waits strand) = Unit {0}
IsQuiet (call strand) = Unit {0}
IsQuiet (resumed strand) = Unit {0}
IsQuiet (ended strand) = Unit {0}
IsQuiet (finished strand) = Unit {0}
IsQuiet _ = ⊥

-- the views stay as they are at an event that begins no strand, and at an access that leaves them
abbrev pub QuietLaw : Type 0
QuietLaw =
    (holding : Holding) (steps : Steps) → AreLegal steps → Holds holding steps →
    ((event : Event) → IsQuiet event → Allowed (control_steps steps) event → Holds holding (control event ∷ steps)) ×
    ((strand : ℕ) → Holds holding (other strand ∷ steps))

-- the number of each update and put is below 2^64
abbrev pub AreNumbers : Steps → Type 0
AreNumbers [] = Unit {0}
AreNumbers (update strand reducer number ∷ steps) = (number < 2 ^ 64) × AreNumbers steps
AreNumbers (put strand reducer number ∷ steps) = (number < 2 ^ 64) × AreNumbers steps
AreNumbers (_ ∷ steps) = AreNumbers steps

-- at a granted get the strand's view is the value of the get: the last put combined with the updates that count, in serial order
abbrev pub GetLaw : Type 0
GetLaw =
    (monoids : List Monoid) (reducer : ℕ) (steps : Steps) → AreNumbers steps → (strand : ℕ) (last : Entry) →
    IsGranted (items_of reducer steps) strand last → (value : View) →
    IsValue (reducer_of (monoid_of monoids reducer)) (items_of reducer steps) strand value ↔ (value ≡ view_of monoids reducer steps strand)
