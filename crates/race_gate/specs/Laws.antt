-- What holds of all judged histories.
use Rattle.std.specs.Prelude.{◌≡◌, ◌↔◌, ◌+◌, ◌%◌, ◌^◌, ◌++◌, ◌∷◌, ℕ}
use Rattle.model_strands.specs.Strands.{Running}
use Rattle.model_histories.specs.Entries.{Entries, control_part}
use Rattle.model_histories.specs.Shapes.{Shape}
use Rattle.model_histories.specs.Legal.{IsLegal}
use Rattle.model_races.specs.declared.access.CellAccess.{CellAccess}
use Rattle.model_histories.specs.declared.answer.Entry.{Entry}
use Rattle.model_races.specs.Accesses.{granted}
use Rattle.model_races.specs.Races.{HasRace}
use Rattle.model_races.specs.Memory.{sets, effect_on_cell, cell_value}
use Rattle.race_gate.specs.Memory.{HasNoWrite, bumps_of}
use Rattle.model_histories.specs.Extensions.{ExtendsEntries}

-- an access races in the dag as it stands exactly where it races in the dag of each longer history, so in the finished one too
abbrev pub RaceLaw : Type 0
RaceLaw =
    (shape : Shape) (entries longer : Entries) → ExtendsEntries longer entries → IsLegal shape longer →
    (strand : ℕ) → Running (control_part entries) strand → (access : CellAccess) →
    HasRace (control_part entries) (granted entries) strand access ↔ HasRace (control_part longer) (granted entries) strand access

-- the value of a cell is that of its last granted write, or 0 where there is none, and the granted bumps since, modulo 2^64
pub record ValueLaw : Type 0 where
  pub written : (later before : Entries) (write : Entry) (cell value : ℕ) →
      effect_on_cell write.request.act write.answer ≡ sets cell value → HasNoWrite cell later →
      cell_value (later ++ write ∷ before) cell ≡ (value + bumps_of cell later) % 2 ^ 64
  pub unwritten : (entries : Entries) (cell : ℕ) → HasNoWrite cell entries → cell_value entries cell ≡ bumps_of cell entries % 2 ^ 64
