-- Histories with the accesses of one reducer.
use Rattle.std.specs.Prelude.{ℕ, List, [], ◌∷◌}
use Rattle.model_strands.specs.History.{Event, History}

-- What an entry of a history is to one reducer: an event of control, a granted update or put of the reducer, or any other access, granted
-- or not.
pub data Item : Type 0 where
  control : (event : Event) → Item
  update : (strand value : ℕ) → Item
  put : (strand value : ℕ) → Item
  other : (strand : ℕ) → Item

-- The items so far, the newest first. An item's number is its place from 1 on, the oldest first.
abbrev pub Items : Type 0
Items = List Item

-- the events among them
abbrev pub control_events : Items → History
control_events [] = []
control_events (control event ∷ items) = event ∷ control_events items
control_events (_ ∷ items) = control_events items
