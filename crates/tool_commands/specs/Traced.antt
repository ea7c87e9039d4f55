-- What is told of a run whose trace is written, and what is written of it.
use Rattle.std.specs.Prelude.{ℕ, ◌≡◌, Option, List, ◌++◌}
use Rattle.std.specs.Io.KnownBytes.{Appends}
use Rattle.trace_text.specs.Grammar.{TextMeans}
use Rattle.trace_text.specs.Printing.{plain_text}
use Rattle.program_text.specs.Drafts.{Contents}
use Rattle.run_traces.specs.Traces.{trace_contents}
use Rattle.command_streams.specs.declared.fault.CliFault.{CliFault}
use Rattle.command_streams.specs.declared.fault.CliFault.TheVariants.{Read, Write, Unwritten, TooLong, Program, Memory}
use Rattle.tool_commands.specs.Programs.{IsFaultyProgram}
use Rattle.command_streams.specs.Readings.{Reading, StopsReader}
use Rattle.tool_commands.specs.Runs.{TellsRun, IsProgramRead, IsRunStopped}
use Rattle.command_streams.specs.Streams.{StopsWriting}

-- what a writer had taken before a command and behind it
pub record Writing : Type 0 where
  pub before : Option (List ℕ)
  pub behind : Option (List ℕ)

abbrev pub writing : (before behind : Option (List ℕ)) → Writing
writing before behind = record { before = before; behind = behind }

-- The line is the report of some finished run of the program within the limit, and the trace is the plain text of the trace of that run.
pub record TellsTraced (program : Contents) (limit : ℕ) (line trace : List ℕ) (status : ℕ) : Type 0 where
  pub tells : TellsRun program limit line status
  pub trace_is : trace ≡ plain_text (trace_contents program tells.entries)
  pub means : ∥ TextMeans trace (trace_contents program tells.entries) ∥₁

-- A program was read, and this is told of a run of it.
pub record IsReadTraced (reader : Reading) (limit : ℕ) (line trace : List ℕ) (status : ℕ) : Type 0 where
  pub program : Contents
  pub read : IsProgramRead reader program
  pub tells : TellsTraced program limit line trace status

-- Of one run the trace was written to the one writer, and the report to the other.
pub record IsTraced (reader : Reading) (traces reports : Writing) (limit status : ℕ) : Type 0 where
  pub line : List ℕ
  pub trace : List ℕ
  pub told : IsReadTraced reader limit line trace status
  pub kept : Appends traces.before traces.behind trace
  pub written : Appends reports.before reports.behind line

-- Only a part of the trace of a run could be written.
pub record IsTraceCut (reader : Reading) (traces : Writing) (limit : ℕ) : Type 0 where
  pub line : List ℕ
  pub trace : List ℕ
  pub status : ℕ
  pub part : List ℕ
  pub rest : List ℕ
  pub told : IsReadTraced reader limit line trace status
  pub kept : Appends traces.before traces.behind part
  pub prefix : part ++ rest ≡ trace

-- The trace of a run was written, and only a part of its report could be.
pub record IsReportCut (reader : Reading) (traces reports : Writing) (limit : ℕ) : Type 0 where
  pub line : List ℕ
  pub trace : List ℕ
  pub status : ℕ
  pub part : List ℕ
  pub rest : List ℕ
  pub told : IsReadTraced reader limit line trace status
  pub kept : Appends traces.before traces.behind trace
  pub written : Appends reports.before reports.behind part
  pub prefix : part ++ rest ≡ line

-- Why there is no run to be told.
abbrev pub StopsRun : Reading → (limit : ℕ) → CliFault → Type 0
StopsRun reader limit Read = Unit {0}
StopsRun reader limit TooLong = StopsReader reader TooLong
StopsRun reader limit (Program fault) = IsFaultyProgram reader.before reader.behind (Program fault)
StopsRun reader limit Memory = Unit {0}
StopsRun reader limit fault = IsRunStopped reader limit fault

-- Why the trace and the report of a run are not written, or not wholly: each fault has its cause.
abbrev pub HasTracedCause : Reading → (traces reports : Writing) → (limit : ℕ) → CliFault → Type 0
HasTracedCause reader traces reports limit Unwritten = IsTraceCut reader traces limit
HasTracedCause reader traces reports limit Write = IsReportCut reader traces reports limit
HasTracedCause reader traces reports limit fault = StopsRun reader limit fault

-- Only a part of the trace was written, or the trace and only a part of the report.
abbrev pub StopsTelling : (traces reports : Writing) → (trace line : List ℕ) → CliFault → Type 0
StopsTelling traces reports trace line Unwritten = StopsWriting traces.before traces.behind trace Write
StopsTelling traces reports trace line Write = Appends traces.before traces.behind trace ×
    (part : List ℕ) × (rest : List ℕ) × Appends reports.before reports.behind part × (part ++ rest ≡ line)
StopsTelling traces reports trace line fault = ⊥

-- ---- the trace in place of the report

-- The trace is that of some finished run of the program within the limit, which has this status and some report.
abbrev pub TellsTrace : Contents → (limit : ℕ) → (trace : List ℕ) → (status : ℕ) → Type 0
TellsTrace program limit trace status = (line : List ℕ) × TellsTraced program limit line trace status

-- Of a run the trace was written, and not its report.
pub record IsTraceWritten (reader : Reading) (wrote writes : Option (List ℕ)) (limit status : ℕ) : Type 0 where
  pub line : List ℕ
  pub trace : List ℕ
  pub told : IsReadTraced reader limit line trace status
  pub written : Appends wrote writes trace

-- Why the trace is not written, or not wholly: each fault has its cause.
abbrev pub HasTraceCause : Reading → (wrote writes : Option (List ℕ)) → (limit : ℕ) → CliFault → Type 0
HasTraceCause reader wrote writes limit Write = IsTraceCut reader (writing wrote writes) limit
HasTraceCause reader wrote writes limit fault = StopsRun reader limit fault
