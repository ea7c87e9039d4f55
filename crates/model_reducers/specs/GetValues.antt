-- What a get by a strand stands for: the last put before it, and the updates since then that lie between the two, in serial order.
use Rattle.std.specs.Prelude.{◌≡◌, ◌↔◌, ◌<◌, ◌≤◌, ℕ, List, map, Contains, AllPairs}
use Rattle.model_strands.specs.Dag.{Reaches}
use Rattle.model_reducers.specs.Items.{Items, control_events}
use Rattle.model_reducers.specs.Entries.{Entry, entry_number, strand_of, entry_value, HasUpdate, HasPut, AreInSerialOrder}
use Rattle.model_reducers.specs.Views.{Reducer, product}

abbrev pub IsLastPut : Items → Entry → Type 0
IsLastPut items last = HasPut items last × ((put : Entry) → HasPut items put → entry_number put ≤ entry_number last)

-- an update since the put, by a strand that the put's strand reaches and that reaches the strand
abbrev pub Counts : Items → Entry → ℕ → Entry → Type 0
Counts items put strand entry =
    HasUpdate items entry × (entry_number put < entry_number entry) ×
    Reaches (control_events items) (strand_of put) (strand_of entry) × Reaches (control_events items) (strand_of entry) strand

-- the list is of the updates that count, in serial order
abbrev pub AreCounted : Items → Entry → ℕ → List Entry → Type 0
AreCounted items put strand entries =
    AllPairs (AreInSerialOrder (control_events items)) entries × ((entry : Entry) → Contains entries entry ↔ Counts items put strand entry)

-- the value of a get by the strand: the last put combined with the product of the updates that count
pub record IsValue {View : Type 0} (reducer : Reducer View) (items : Items) (strand : ℕ) (value : View) : Type 0 where
  pub put : Entry
  pub last : IsLastPut items put
  pub counted : List Entry
  pub counts : AreCounted items put strand counted
  pub combined : value ≡
      reducer.combine (reducer.of_put (entry_value put)) (product reducer (map (λ entry. reducer.of_update (entry_value entry)) counted))
