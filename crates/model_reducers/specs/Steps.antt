-- Histories with the accesses of all reducers, and what one reducer sees of them.
use Rattle.std.specs.Prelude.{ℕ, List, map, ◌==◌, if◌then◌else◌}
use Rattle.model_strands.specs.History.{Event}
use Rattle.model_reducers.specs.Items as one
use Rattle.model_reducers.specs.Items.{Item, Items}

-- an event of control, a granted update or put of a reducer, or any other access
pub data Step : Type 0 where
  control : (event : Event) → Step
  update : (strand reducer value : ℕ) → Step
  put : (strand reducer value : ℕ) → Step
  -- an access that leaves the views of all reducers as they are: a get, one of a cell, or one that was refused
  other : (strand : ℕ) → Step

-- The steps so far, the newest first. A step's number is its place from 1 on, the oldest first.
abbrev pub Steps : Type 0
Steps = List Step

-- a step as one reducer sees it: an update or a put of another one leaves its views as they are
abbrev pub item_of : ℕ → Step → Item
item_of reducer (control event) = one.control event
item_of reducer (update strand updated_reducer value) = if updated_reducer == reducer then one.update strand value else one.other strand
item_of reducer (put strand put_reducer value) = if put_reducer == reducer then one.put strand value else one.other strand
item_of reducer (other strand) = one.other strand

abbrev pub items_of : ℕ → Steps → Items
items_of reducer steps = map (item_of reducer) steps
