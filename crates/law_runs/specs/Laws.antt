-- What holds of all runs of a program.
use Rattle.std.specs.Prelude.{◌++◌, List, length}
use Rattle.model_histories.specs.Entries.{Entries}
use Rattle.model_histories.specs.Shapes.{Shape}
use Rattle.model_bodies.specs.Codes.{Code}
use Rattle.model_bodies.specs.Sound.{IsSound}
use Rattle.model_runs.specs.Runs.{IsRun}
use Rattle.law_runs.specs.Numbers.{AreNumbered}

-- what a run begins with is a run
abbrev pub PrefixLaw : Type 0
PrefixLaw =
    (functions : List Code) (shape : Shape) (later entries : Entries) →
    IsRun functions shape (later ++ entries) → IsRun functions shape entries

-- the values that a run of a sound program asks with are numbers of 64 bits
abbrev pub NumbersLaw : Type 0
NumbersLaw =
    (functions : List Code) (shape : Shape) → IsSound shape.cells (length shape.monoids) functions → (entries : Entries) →
    IsRun functions shape entries → AreNumbered entries
