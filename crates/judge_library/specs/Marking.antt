-- What is said of the calls that give up records.
use Rattle.std.specs.Prelude.{◌≡◌, Bool, List, length, Option, Some, None}
use Rattle.model_serial_runs.specs.Accesses.{Access}
use Rattle.serial_judge.specs.declared.cell.Cell.{Cell}
use Rattle.serial_judge.specs.Runs.{Run}
use Rattle.serial_judge.specs.Judge.{Judge}
use Rattle.serial_judge.specs.Follows.{Follows}
use Rattle.serial_judge.specs.Moves.{moved_run, IsMarked}
use Rattle.serial_judge.specs.Remembers.{Remembers}

-- there is one, and it has the property
abbrev pub With : {X : Type 0} → Option X → (X → Type 0) → Type 0
With None Property = ⊥
With (Some x) Property = Property x

-- there is none, or it has the property
abbrev pub IfWith : {X : Type 0} → Option X → (X → Type 0) → Type 0
IfWith None Property = Unit {0}
IfWith (Some x) Property = Property x

-- the records that the cell names are marked, and those that were
pub record IsMarkedBy (old new : List Bool) (cell : Cell) : Type 0 where
  pub marked : (run : Run) (accesses : List Access) → length old ≡ length run.records → Remembers run cell accesses → IsMarked new cell
  pub stays : (other : Cell) → IsMarked old other → IsMarked new other
  pub alike : length new ≡ length old

-- the records that are not marked are given up
pub record IsMoved (marks : List Bool) (old new : Judge) : Type 0 where
  pub follows : (run : Run) → Follows old run → Follows new (moved_run marks run)
