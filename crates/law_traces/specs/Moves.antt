-- Cells to which the same is done by the same strands but for where these are: behind one address or behind another.
use Rattle.std.specs.Prelude.{◌≡◌, ◌≢◌, ◌↔◌, ℕ, Some, ◌++◌}
use Rattle.model_accesses.specs.declared.kind.Kind.{Kind}
use Rattle.model_accesses.specs.declared.request.Request.{Request}
use Rattle.model_strands.specs.Address.{Address}
use Rattle.law_addresses.specs.Address.{IsPrefix}
use Rattle.model_histories.specs.Entries.{Entries}
use Rattle.model_races.specs.Accesses.{cell_access}
use Rattle.law_traces.specs.Locations.{access_of}
use Rattle.law_traces.specs.Sets.{AccessesAt, Covers}

-- the address of each strand that accesses the cell begins with this one
abbrev pub IsBelow : Entries → Address → ℕ → Type 0
IsBelow entries front cell = (at : Address) (kind : Kind) → AccessesAt entries at kind cell → IsPrefix front at

-- Each access of the one cell is below the one address, and each of the other below the other, and behind these addresses the same is done to
-- both. The two may be any addresses: `begins_at` of `Functions` is one with which those of a function's strands begin.
pub record IsMoved (entries : Entries) (front : Address) (cell : ℕ) (others : Entries) (other_front : Address) (other_cell : ℕ) : Type 0 where
  pub below : IsBelow entries front cell
  pub other_below : IsBelow others other_front other_cell
  pub same : (rest : Address) (kind : Kind) → AccessesAt entries (front ++ rest) kind cell ↔ AccessesAt others (other_front ++ rest) kind other_cell

-- for each access of the one history's cell the other has one of its cell, at the address behind the other one, which covers it
abbrev pub AreCoveredBehind : Entries → Address → ℕ → Entries → Address → ℕ → Type 0
AreCoveredBehind entries front cell others other_front other_cell =
    (at : Address) (kind : Kind) → AccessesAt entries at kind cell →
    (rest : Address) × (covering : Kind) × (at ≡ front ++ rest) × Covers covering kind × AccessesAt others (other_front ++ rest) covering other_cell

-- the cell, of that history, is another one moved
abbrev pub IsLike : Entries → ℕ → ℕ → Type 0
IsLike entries cell other = (front other_front : Address) × IsMoved entries front cell entries other_front other

-- an access of a cell for which another one stands
abbrev pub IsOfOneLeftOut : (ℕ → ℕ) → Request → Type 0
IsOfOneLeftOut stand_in request = (kind : Kind) × (cell : ℕ) × (cell_access request.act ≡ Some (access_of kind cell)) × (stand_in cell ≢ cell)
