-- What holds of all cells.
use Rattle.std.specs.Prelude.{Bool, List, []}
use Rattle.model_strands.specs.Legal.{Legal}
use Rattle.model_serial_runs.specs.Accesses.{Access}
use Rattle.model_serial_runs.specs.Current.{IsSerial}
use Rattle.serial_judge.specs.declared.cell.Cell.{Cell}
use Rattle.serial_judge.specs.Runs.{Run, IsLater}
use Rattle.serial_judge.specs.Moves.{moved_run, moved_cell, IsMarked}
use Rattle.serial_judge.specs.Remembers.{Remembers, IsRecorded}

-- what is remembered stays as the run goes on
abbrev pub LaterLaw : Type 0
LaterLaw = (run after : Run) → IsLater after run → (cell : Cell) (accesses : List Access) → Remembers run cell accesses → Remembers after cell accesses

-- where the records that a cell names are marked, the cell with their new numbers remembers what it did
abbrev pub MovedLaw : Type 0
MovedLaw =
    (run : Run) (marks : List Bool) (cell : Cell) (accesses : List Access) → IsMarked marks cell → Remembers run cell accesses →
    Remembers (moved_run marks run) (moved_cell marks cell) accesses

-- a location without accesses
abbrev pub empty_cell : Cell
empty_cell = record { latest = 0; writer = 0; reader = 0; updater = 0; loader = 0 }

-- which remembers none
abbrev pub EmptyLaw : Type 0
EmptyLaw = (run : Run) → Remembers run empty_cell []

-- a run with a record more is a later one
abbrev pub RecordedLaw : Type 0
RecordedLaw =
    (run after : Run) (access : Access) → Legal run.history → IsSerial run.history → IsRecorded run access after → IsLater after run
