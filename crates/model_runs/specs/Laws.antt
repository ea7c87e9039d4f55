-- What a clean run says of its program and of all other runs.
use Rattle.std.specs.Prelude.{◌≡◌, ◌<◌, ℕ, List, length}
use Rattle.model_strands.specs.Address.{Address}
use Rattle.model_histories.specs.Entries.{Entries}
use Rattle.model_histories.specs.Shapes.{Shape}
use Rattle.model_races.specs.Memory.{cell_value, IsMemory}
use Rattle.model_histories.specs.Extensions.{IsFinished, IsClean}
use Rattle.model_reducers.specs.declared.view.View.{View}
use Rattle.model_bodies.specs.Codes.{Code}
use Rattle.model_bodies.specs.Sound.{IsSound}
use Rattle.model_programs.specs.Elisions.{HasMain, EvaluatesProgram, Elides, NeedsMore}
use Rattle.model_runs.specs.Runs.{IsRun, IsFinishedRun}
use Rattle.model_runs.specs.Serial.{Numbered, IsSerialList, effects_of}
use Rattle.model_runs.specs.Coordinates.{effects_at, IsPrefixOf}

-- The entries in serial order are, one by one, the requests of the program's serial elision, with the values that they were given there,
-- and the memory that the history leaves is the elision's. So the elision makes as many requests as there are entries.
pub record IsElided (functions : List Code) (shape : Shape) (entries : Entries) : Type 0 where
  pub main : Code
  pub is_main : HasMain functions main
  pub listed : List Numbered
  pub serial : IsSerialList entries listed
  pub count : length listed ≡ length entries
  pub memory : List ℕ
  pub views : List View
  pub evaluates : EvaluatesProgram functions shape.monoids shape.cells main (effects_of listed) (record { memory = memory; views = views })
  pub holds : IsMemory shape.cells entries memory

-- a finished run in which nothing was refused is the serial elision
abbrev pub ElisionLaw : Type 0
ElisionLaw =
    (functions : List Code) (shape : Shape) → IsSound shape.cells (length shape.monoids) functions → (entries : Entries) →
    IsFinishedRun functions shape entries → IsClean entries → IsElided functions shape entries

-- Another run of the program agrees with a clean and finished one: nothing is refused in it, at each address it did what the clean one did
-- there, as far as it went, and where it is finished it did all of that and left the same memory.
pub record Agrees (shape : Shape) (clean entries : Entries) : Type 0 where
  pub is_clean : IsClean entries
  pub begins : (place : Address) → IsPrefixOf (effects_at entries place) (effects_at clean place)
  pub equal : IsFinished entries → (place : Address) → effects_at entries place ≡ effects_at clean place
  pub memory : IsFinished entries → (cell : ℕ) → cell < shape.cells → cell_value entries cell ≡ cell_value clean cell

-- and so does every run of the program
abbrev pub AllAgree : List Code → Shape → Entries → Type 0
AllAgree functions shape clean = (entries : Entries) → IsRun functions shape entries → Agrees shape clean entries

-- one clean and finished run speaks for all runs of the program
abbrev pub CleanLaw : Type 0
CleanLaw =
    (functions : List Code) (shape : Shape) → IsSound shape.cells (length shape.monoids) functions → (clean : Entries) →
    IsFinishedRun functions shape clean → IsClean clean → AllAgree functions shape clean

-- What is told of the program's serial elision is so of the history: it leaves the memory that the history leaves, and makes one request
-- for each entry; so it does not need more than that.
pub record IsToldByElision (functions : List Code) (shape : Shape) (entries : Entries) : Type 0 where
  pub leaves : (memory : List ℕ) (requests : ℕ) →
      Elides functions shape.monoids shape.cells memory requests → IsMemory shape.cells entries memory
  pub same : (memory : List ℕ) (requests : ℕ) → Elides functions shape.monoids shape.cells memory requests → (held : List ℕ) →
      IsMemory shape.cells entries held → memory ≡ held
  pub makes : (memory : List ℕ) (requests : ℕ) → Elides functions shape.monoids shape.cells memory requests → requests ≡ length entries
  pub within : (limit : ℕ) → NeedsMore functions shape.monoids shape.cells limit → limit < length entries

-- that is so of each finished run in which nothing was refused
abbrev pub ElidedRunLaw : Type 0
ElidedRunLaw =
    (functions : List Code) (shape : Shape) → IsSound shape.cells (length shape.monoids) functions → (entries : Entries) →
    IsFinishedRun functions shape entries → IsClean entries → IsToldByElision functions shape entries
