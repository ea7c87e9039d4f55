-- What the cells of memory hold.
use Rattle.std.specs.Prelude.{◌≡◌, ◌<◌, ◌+◌, ◌%◌, ◌^◌, ◌==◌, ℕ, List, [], ◌∷◌, length, slice_index, if◌then◌else◌}
use Rattle.model_accesses.specs.declared.request.Act.{Act}
use Rattle.model_accesses.specs.declared.request.Act.TheVariants.{Write, Bump}
use Rattle.model_histories.specs.declared.answer.Answer.{Answer}
use Rattle.model_histories.specs.declared.answer.Answer.TheVariants.{Granted}
use Rattle.model_histories.specs.Entries.{Entries}

-- what an entry does to memory: it sets a cell to a value, adds a value to a cell, or does nothing
pub data CellEffect : Type 0 where
  sets : (location value : ℕ) → CellEffect
  adds : (location value : ℕ) → CellEffect
  leaves : CellEffect

-- granted writes set their cell, and granted bumps add to it
abbrev pub effect_on_cell : Act → Answer → CellEffect
effect_on_cell (Write location value) Granted = sets location value
effect_on_cell (Bump location value) Granted = adds location value
effect_on_cell act answer = leaves

-- the effects of the entries, the newest first
abbrev pub effects : Entries → List CellEffect
effects [] = []
effects (entry ∷ entries) = effect_on_cell entry.request.act entry.answer ∷ effects entries

-- the value of the last write of the cell, or 0 where there is none
abbrev pub last_written : List CellEffect → ℕ → ℕ
last_written [] cell = 0
last_written (sets location value ∷ before) cell = if location == cell then value else last_written before cell
last_written (_ ∷ before) cell = last_written before cell

-- the sum of the bumps of the cell since its last write
abbrev pub bumped_since : List CellEffect → ℕ → ℕ
bumped_since [] cell = 0
bumped_since (sets location value ∷ before) cell = if location == cell then 0 else bumped_since before cell
bumped_since (adds location value ∷ before) cell = if location == cell then value + bumped_since before cell else bumped_since before cell
bumped_since (leaves ∷ before) cell = bumped_since before cell

-- what the cell holds after the entries: the value of the last granted write, or 0, and the granted bumps since, modulo 2^64
abbrev pub cell_value : Entries → ℕ → ℕ
cell_value entries cell = (last_written (effects entries) cell + bumped_since (effects entries) cell) % 2 ^ 64

-- the memory holds that in each of so many cells
pub record IsMemory (cells : ℕ) (entries : Entries) (memory : List ℕ) : Type 0 where
  pub len : length memory ≡ cells
  pub each : (cell : ℕ) → cell < cells → slice_index memory cell ≡ cell_value entries cell
