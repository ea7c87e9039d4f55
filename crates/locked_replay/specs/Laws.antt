-- What holds of whole runs.
use Rattle.std.specs.Prelude.{List, length}
use Rattle.model_histories.specs.Entries.{Entries}
use Rattle.model_histories.specs.Shapes.{Shape}
use Rattle.model_histories.specs.Extensions.{IsClean}
use Rattle.model_bodies.specs.Codes.{Code}
use Rattle.model_bodies.specs.Sound.{IsSound}
use Rattle.model_runs.specs.Runs.{IsFinishedRun}
use Rattle.model_runs.specs.Laws.{IsElided, AllAgree, IsToldByElision}

-- The run is the program's serial elision, what is told of that elision is so of the run, and every run of the program agrees with it.
pub record SpeaksForAll (functions : List Code) (shape : Shape) (clean : Entries) : Type 0 where
  pub elided : IsElided functions shape clean
  pub told : IsToldByElision functions shape clean
  pub agree : AllAgree functions shape clean

-- so it is with each finished run of a sound program in which nothing was refused
abbrev pub WholeLaw : Type 0
WholeLaw =
    (functions : List Code) (shape : Shape) → IsSound shape.cells (length shape.monoids) functions → (clean : Entries) →
    IsFinishedRun functions shape clean → IsClean clean → SpeaksForAll functions shape clean
