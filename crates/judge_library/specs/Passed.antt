-- What C passes, as the judge has it.
use Rattle.std.specs.Prelude.{ℕ, zero, suc, Bool, true, false, Option, Some, None}
use Rattle.model_serial_runs.specs.declared.access_kind.AccessKind.{AccessKind}
use Rattle.model_serial_runs.specs.declared.access_kind.AccessKind.TheVariants.{Read, Load, Update, Write}
use Rattle.serial_judge.specs.declared.cell.Cell.{Cell}
use Rattle.serial_judge.specs.declared.cell.Race.{Race}
use Rattle.serial_judge.specs.declared.cell.Judged.{Judged}
use Rattle.judge_library.specs.declared.cell.PassedCell.{PassedCell}
use Rattle.judge_library.specs.declared.cell.PassedRace.{PassedRace}
use Rattle.judge_library.specs.declared.cell.PassedRead.{PassedRead}

-- the kind with this number
abbrev pub kind_at : ℕ → AccessKind
kind_at zero = Read
kind_at (suc zero) = Load
kind_at (suc (suc zero)) = Update
kind_at number = Write

abbrev pub cell_of : PassedCell → Cell
cell_of cell = record {
  latest = cell.latest;
  writer = cell.writer;
  reader = cell.reader;
  updater = cell.updater;
  loader = cell.loader;
}

abbrev pub some_if : {X : Type 0} → Bool → X → Option X
some_if true x = Some x
some_if false x = None

abbrev pub race_of : PassedRace → Option Race
race_of race = some_if race.is_race (record {
  «record» = race.number;
  site = race.site;
  kind = kind_at race.kind;
  spawn = race.spawn;
})

abbrev pub judged_of : PassedCell → PassedRace → Judged
judged_of cell race = record { cell = cell_of cell; race = race_of race }

-- the site of an earlier read
abbrev pub read_of : PassedRead → Option ℕ
read_of read = some_if read.is_race read.site
