-- What a strand's view is at a granted get.
use Rattle.std.specs.Prelude.{◌≡◌, ◌↔◌, ℕ, Bool, List, [], ◌∷◌, Some, IsTrue}
use Rattle.model_reducers.specs.Items.{Item, Items, control_events}
use Rattle.law_values.specs.Items.{AreLegalItems}
use Rattle.model_reducers.specs.Steps.{Steps, items_of}
use Rattle.law_values.specs.Accesses.{control_steps, AreLegal}
use Rattle.model_reducers.specs.Entries.{Entry, update_entry, put_entry}
use Rattle.law_values.specs.Logs.{log}
use Rattle.model_reducers.specs.Views.{Reducer}
use Rattle.law_values.specs.Views.{view, Changes, IsMonoidOn, EntriesFit}
use Rattle.law_values.specs.GetValues.{IsGranted}
use Rattle.model_reducers.specs.GetValues.{AreCounted, IsValue}
use Rattle.law_values.specs.Examples.{last, digits, two_children, early_continuation, waiting_sync, early_update}

-- at a granted get the strand's log is the last put and then the updates that count
abbrev pub LogLaw : Type 0
LogLaw =
    (items : Items) (strand : ℕ) (put : Entry) → IsGranted items strand put →
    (counted : List Entry) × AreCounted items put strand counted × (log items strand ≡ put ∷ counted)

-- only one list is of the updates that count in serial order
abbrev pub CountedLaw : Type 0
CountedLaw =
    (items : Items) → AreLegalItems items → (strand : ℕ) (put : Entry) (counted others : List Entry) → AreCounted items put strand counted →
    AreCounted items put strand others → counted ≡ others

-- at a granted get the value is the strand's view, and nothing else is
abbrev pub ValuesAre : {View : Type 0} → (View → Type 0) → Reducer View → Type 0
ValuesAre {View} Fits reducer =
    IsMonoidOn Fits reducer → (items : Items) → EntriesFit Fits reducer items → (strand : ℕ) (put : Entry) → IsGranted items strand put →
    (value : View) → IsValue reducer items strand value ↔ (value ≡ view reducer items strand)

-- that is so for each reducer whose views fit by such a test
abbrev pub ValueLaw : Type 0 → Type 0
ValueLaw View = (reducer : Reducer View) (fits : View → Bool) → ValuesAre (λ view. IsTrue (fits view)) reducer

-- an item changes no other view
abbrev pub StayLaw : Type 0 → Type 0
StayLaw View =
    (reducer : Reducer View) (items : Items) (item : Item) (strand : ℕ) → (Changes item strand → ⊥) →
    view reducer (item ∷ items) strand ≡ view reducer items strand

-- each reducer sees all events, and what it sees is legal exactly where the whole is
abbrev pub ProjectionLaw : Type 0
ProjectionLaw =
    (reducer : ℕ) (steps : Steps) →
    (control_events (items_of reducer steps) ≡ control_steps steps) × (AreLegalItems (items_of reducer steps) ↔ AreLegal steps)

-- the get by the strand is granted, these are the updates that count at it, and this is its value and the strand's view
pub record IsWorked {View : Type 0} (reducer : Reducer View) (items : Items) (strand : ℕ) (put : Entry) (counted : List Entry)
    (value : View) : Type 0 where
  pub granted : IsGranted items strand put
  pub counts : AreCounted items put strand counted
  pub value_is : IsValue reducer items strand value
  pub view_is : view reducer items strand ≡ value

-- what the worked histories show
pub record WorkedHistories : Type 0 where
  -- children count in order of spawning, not of return
  pub spawning_order : IsWorked last two_children 3 (put_entry 1 0 1) (update_entry 4 1 5 ∷ update_entry 5 4 7 ∷ []) (Some 7)
  -- the child's update counts first, though the continuation's was made before it
  pub serial_order : IsWorked digits early_continuation 3 (put_entry 1 0 0) (update_entry 4 1 1 ∷ update_entry 3 2 2 ∷ []) (961, 33)
  -- also where the sync waits for the child
  pub waited_for : IsWorked digits waiting_sync 3 (put_entry 1 0 0) (update_entry 5 1 1 ∷ update_entry 3 2 2 ∷ []) (961, 33)
  -- an update before the put does not count
  pub last_put : IsWorked last early_update 0 (put_entry 3 0 4) [] (Some 4)

abbrev pub ExamplesLaw : Type 0
ExamplesLaw = WorkedHistories
