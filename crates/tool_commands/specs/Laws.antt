-- What a clean report means.
use Rattle.std.specs.Prelude.{ℕ, ◌≡◌, List, length}
use Rattle.text_words.specs.Declarations.{cells_of}
use Rattle.model_histories.specs.declared.answer.Entry.{Entry}
use Rattle.model_histories.specs.Entries.{Entries}
use Rattle.model_races.specs.Memory.{IsMemory}
use Rattle.model_histories.specs.Extensions.{IsClean}
use Rattle.model_reducers.specs.declared.view.View.{View}
use Rattle.model_bodies.specs.Codes.{Code}
use Rattle.program_text.specs.Drafts.{Contents}
use Rattle.model_programs.specs.Evaluation.{Effect}
use Rattle.model_programs.specs.Elisions.{HasMain, EvaluatesProgram, Elides}
use Rattle.model_runs.specs.Runs.{IsRun, IsFinishedRun}
use Rattle.race_report.specs.Laws.{TellsSchedules}
use Rattle.tool_commands.specs.Programs.{monoids_of}
use Rattle.tool_commands.specs.Programs.{shape_of_program}
use Rattle.tool_commands.specs.Runs.{run_line, TellsRun}

-- The line tells so many entries and this memory, and that the program is clean for every schedule. And so it is: the program's serial
-- elision makes as many requests and leaves this memory, nothing is refused in any run of the program, and each that is finished leaves
-- this memory.
pub record TellsEverySchedule (program : Contents) (line : List ℕ) : Type 0 where
  pub entries : List Entry
  pub memory : List ℕ
  pub line_is : line ≡ run_line program entries memory
  pub told : TellsSchedules program.known entries memory
  pub main : Code
  pub is_main : HasMain program.functions main
  pub effects : List Effect
  pub views : List View
  pub evaluates : EvaluatesProgram program.functions (monoids_of program)
      (cells_of program.known.mems) main effects (record { memory = memory; views = views })
  pub count : length effects ≡ length entries
  -- what `elide` tells of the program
  pub elides : (held : List ℕ) (requests : ℕ) → Elides program.functions (monoids_of program) (cells_of program.known.mems) held requests →
      (held ≡ memory) × (requests ≡ length entries)
  pub clean : (other : Entries) → IsRun program.functions (shape_of_program program) other → IsClean other
  pub leaves : (other : Entries) → IsFinishedRun program.functions (shape_of_program program) other →
      IsMemory (cells_of program.known.mems) other memory

-- so it is with each line that tells a run at status 0
abbrev pub CleanReportLaw : Type 0
CleanReportLaw =
    (program : Contents) (limit : ℕ) (line : List ℕ) (status : ℕ) →
    TellsRun program limit line status → status ≡ 0 → TellsEverySchedule program line
