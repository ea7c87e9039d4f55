-- What is read of a program, and what is written of its run by many workers.
use Rattle.std.specs.Prelude.{ℕ, ◌≡◌, ◌≤◌, ◌↔◌, Option, List, ◌++◌, length, reverse, codes}
use Rattle.std.specs.Io.KnownBytes.{Appends}
use Rattle.text_words.specs.Declarations.{cells_of}
use Rattle.program_text.specs.Drafts.{Contents}
use Rattle.program_text.specs.Grammar.{TextMeans}
use Rattle.model_histories.specs.declared.answer.Entry.{Entry}
use Rattle.model_races.specs.Memory.{IsMemory}
use Rattle.model_histories.specs.Extensions.{IsClean}
use Rattle.model_runs.specs.Runs.{IsFinishedRun}
use Rattle.locked_replay.specs.declared.fault.RunFault.{RunFault}
use Rattle.locked_replay.specs.declared.fault.RunFault.TheVariants as run
use Rattle.locked_replay.specs.Strange.{IsStrangeGate}
use Rattle.locked_replay.specs.Laws.{SpeaksForAll}
use Rattle.program_runs.specs.Runs.{WantsMore, IsTornGate, IsLeft}
use Rattle.race_report.specs.ReportText.{report_text}
use Rattle.race_report.specs.Laws.{TellsSchedules}
use Rattle.command_streams.specs.declared.fault.CliFault.{CliFault}
use Rattle.command_streams.specs.declared.fault.CliFault.TheVariants.{Read, Write, TooLong, Program, Limit, Stopped, Torn, Strange, Memory}
use Rattle.tool_commands.specs.Programs.{IsFaultyProgram}
use Rattle.tool_commands.specs.Outcomes.{refusal_status}
use Rattle.command_streams.specs.Readings.{Reading, StopsReader}
use Rattle.tool_commands.specs.Programs.{shape_of_program}
use Rattle.command_streams.specs.Streams.{IsRead}

abbrev pub fault_of_run : RunFault → CliFault
fault_of_run run.Limit = Limit
fault_of_run run.Stopped = Stopped
fault_of_run run.Torn = Torn
fault_of_run run.Strange = Strange
fault_of_run run.Memory = Memory

-- Why the workers brought no finished run within the limit.
abbrev pub IsRunFault : Contents → (limit : ℕ) → CliFault → Type 0
IsRunFault program limit Limit = WantsMore program.functions (shape_of_program program) limit
IsRunFault program limit Stopped = IsLeft (λ gate. ⊥)
IsRunFault program limit Torn = IsLeft IsTornGate
IsRunFault program limit Strange = IsLeft (IsStrangeGate program.functions (shape_of_program program))
IsRunFault program limit Memory = Unit {0}
IsRunFault program limit fault = ⊥

-- the report of these entries, oldest first, that leave this memory, and a line feed
abbrev pub run_line : Contents → List Entry → List ℕ → List ℕ
run_line program entries memory = report_text program.known entries memory ++ codes "\n"

-- The line is the report of some finished run of the program within the limit, and the status tells whether something was refused in it.
pub record TellsRun (program : Contents) (limit : ℕ) (line : List ℕ) (status : ℕ) : Type 0 where
  pub entries : List Entry
  pub memory : List ℕ
  pub run : IsFinishedRun program.functions (shape_of_program program) (reverse entries)
  pub within : length entries ≤ limit
  pub left : IsMemory (cells_of program.known.mems) (reverse entries) memory
  pub line_is : line ≡ run_line program entries memory
  pub status_is : status ≡ refusal_status entries
  -- where nothing was refused, the entries are the program's serial elision, and every run of the program agrees with them
  pub speaks : IsClean (reverse entries) → SpeaksForAll program.functions (shape_of_program program) (reverse entries)
  -- the report has the key `schedules` just there
  pub schedules : TellsSchedules program.known entries memory ↔ IsClean (reverse entries)

-- The text was read, and means this program.
pub record IsProgramRead (reader : Reading) (program : Contents) : Type 0 where
  pub text : List ℕ
  pub read : IsRead reader.before reader.behind text
  pub means : TextMeans text program

-- A program was read, and the line of its run was written.
pub record IsRan (reader : Reading) (wrote writes : Option (List ℕ)) (limit status : ℕ) : Type 0 where
  pub program : Contents
  pub line : List ℕ
  pub read : IsProgramRead reader program
  pub tells : TellsRun program limit line status
  pub written : Appends wrote writes line

-- A program was read, and only a part of the line of its run could be written.
pub record IsRunCut (reader : Reading) (wrote writes : Option (List ℕ)) (limit : ℕ) : Type 0 where
  pub program : Contents
  pub line : List ℕ
  pub status : ℕ
  pub part : List ℕ
  pub rest : List ℕ
  pub read : IsProgramRead reader program
  pub tells : TellsRun program limit line status
  pub written : Appends wrote writes part
  pub prefix : part ++ rest ≡ line

-- A program was read, and there is no finished run of it to be told.
pub record IsRunStopped (reader : Reading) (limit : ℕ) (fault : CliFault) : Type 0 where
  pub program : Contents
  pub read : IsProgramRead reader program
  pub stops : IsRunFault program limit fault

-- Why the line of a run is not written, or not wholly: each fault has its cause.
abbrev pub HasRunCause : Reading → (wrote writes : Option (List ℕ)) → (limit : ℕ) → CliFault → Type 0
HasRunCause reader wrote writes limit Read = Unit {0}
HasRunCause reader wrote writes limit Write = IsRunCut reader wrote writes limit
HasRunCause reader wrote writes limit TooLong = StopsReader reader TooLong
HasRunCause reader wrote writes limit (Program fault) = IsFaultyProgram reader.before reader.behind (Program fault)
HasRunCause reader wrote writes limit Memory = Unit {0}
HasRunCause reader wrote writes limit fault = IsRunStopped reader limit fault
