-- The value of a cell in other words: its writes and its bumps.
use Rattle.std.specs.Prelude.{◌≡◌, ◌+◌, ◌==◌, ℕ, [], ◌∷◌, if◌then◌else◌}
use Rattle.model_races.specs.Memory.{CellEffect, sets, adds, effect_on_cell}
use Rattle.model_histories.specs.Entries.{Entries}

-- the effect_on_cell is a write of the cell
abbrev pub IsWriteOf : ℕ → CellEffect → Type 0
IsWriteOf cell (sets location value) = location ≡ cell
IsWriteOf cell _ = ⊥

-- none of the entries is a granted write of the cell
abbrev pub HasNoWrite : ℕ → Entries → Type 0
HasNoWrite cell [] = Unit {0}
HasNoWrite cell (entry ∷ entries) = (IsWriteOf cell (effect_on_cell entry.request.act entry.answer) → ⊥) × HasNoWrite cell entries

-- what the effect_on_cell adds to the cell, where it is a bump of it
abbrev pub bump_of : ℕ → CellEffect → ℕ
bump_of cell (adds location value) = if location == cell then value else 0
bump_of cell _ = 0

-- the sum of the granted bumps of the cell
abbrev pub bumps_of : ℕ → Entries → ℕ
bumps_of cell [] = 0
bumps_of cell (entry ∷ entries) = bump_of cell (effect_on_cell entry.request.act entry.answer) + bumps_of cell entries
