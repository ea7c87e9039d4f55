-- What is read of a program and a trace, and what is written of the replay.
use Rattle.std.specs.Prelude.{ℕ, ◌≡◌, ◌⊎◌, suc, Option, Some, None, List, ◌∷◌, ◌++◌, length, reverse}
use Rattle.std.specs.List.{All}
use Rattle.std.specs.Io.KnownBytes.{Appends}
use Rattle.trace_text.specs.Grammar.{TextMeans as TraceMeans}
use Rattle.model_accesses.specs.declared.request.Request.{Request}
use Rattle.text_words.specs.Values.{Contents as TraceContents}
use Rattle.program_text.specs.Drafts.{Contents}
use Rattle.program_text.specs.Grammar.{TextMeans}
use Rattle.model_histories.specs.declared.answer.Entry.{Entry}
use Rattle.model_histories.specs.declared.reply.Reply.{Reply}
use Rattle.model_histories.specs.declared.reply.Reply.TheVariants.{Done, Illegal as IllegalReply}
use Rattle.model_histories.specs.declared.fault.GateFault.{GateFault}
use Rattle.model_histories.specs.declared.fault.GateFault.TheVariants.{Limit as GateLimit, Memory as GateMemory}
use Rattle.model_histories.specs.Faults.{IsFirstFault}
use Rattle.model_histories.specs.Shapes.{most_entries}
use Rattle.model_histories.specs.States.{GateState}
use Rattle.command_streams.specs.declared.fault.CliFault.{CliFault}
use Rattle.command_streams.specs.declared.fault.CliFault.TheVariants.{Usage, Read, Write, TooLong, Trace, Program}
use Rattle.command_streams.specs.declared.fault.CliFault.TheVariants.{Shape as ShapeFault, Illegal, Limit, Memory}
use Rattle.tool_commands.specs.declared.outcome.Outcome.{Outcome}
use Rattle.tool_commands.specs.declared.ask.Stop.{Stop}
use Rattle.tool_commands.specs.Declarations.{DeclareSame}
use Rattle.tool_commands.specs.Programs.{IsFaultyProgram}
use Rattle.tool_commands.specs.Runs.{IsProgramRead}
use Rattle.tool_commands.specs.Outcomes.{IsSo, line_of_outcome, status_of}
use Rattle.command_streams.specs.Streams.{declared_shape, requests_of, IsJudgedBy, JudgesTrace, IsFaulty, IsRead}
use Rattle.command_streams.specs.Readings.{Reading, StopsReader}
use Rattle.tool_commands.specs.Programs.{shape_of_program}

-- ---- the gate that judges the requests of a trace

abbrev pub IsDone : Reply → Type 0
IsDone (Done receipt) = Unit {0}
IsDone (IllegalReply fault) = ⊥

-- all requests were answered
pub record AnswersAll (trace : TraceContents) (gate : GateState) : Type 0 where
  pub replies : List Reply
  pub judges : JudgesTrace trace most_entries replies gate
  pub done : All IsDone replies

-- the fault of a command for an illegal request of this number
abbrev pub fault_of_request : ℕ → GateFault → CliFault
fault_of_request number GateLimit = Limit
fault_of_request number GateMemory = Memory
fault_of_request number fault = Illegal number

-- All requests before this one were answered, and it is not, by its first fault; the first request has the number 1.
pub record StopsAt (trace : TraceContents) (gate : GateState) (stop : Stop) : Type 0 where
  pub earlier : List Request
  pub later : List Request
  pub asked : requests_of trace ≡ earlier ++ stop.request ∷ later
  pub number_is : stop.number ≡ suc (length earlier)
  pub replies : List Reply
  pub judges : IsJudgedBy (declared_shape trace) most_entries earlier replies gate
  pub done : All IsDone replies
  pub first : IsFirstFault gate stop.request stop.fault

-- some request is such a one, and this is the fault of a command for it
pub record StopsGate (trace : TraceContents) (fault : CliFault) : Type 0 where
  pub gate : GateState
  pub stop : Stop
  pub stops : StopsAt trace gate stop
  pub named : fault ≡ fault_of_request stop.number stop.fault

-- all requests were answered, or this one is the first that is not
abbrev pub Asks : TraceContents → GateState → Option Stop → Type 0
Asks trace gate None = AnswersAll trace gate
Asks trace gate (Some stop) = StopsAt trace gate stop

-- ---- the replay of a trace

-- The trace has the program's declarations, a gate answered all of its requests, and the line and the status tell of the gate's entries
-- what is so.
pub record ReplaysContents (program : Contents) (trace : TraceContents) (line : List ℕ) (status : ℕ) : Type 0 where
  pub same : DeclareSame program.known trace.known
  pub gate : GateState
  pub answers : AnswersAll trace gate
  pub entries : List Entry
  pub history : reverse entries ≡ gate.history
  pub outcome : Outcome
  pub so : IsSo program.functions (shape_of_program program) entries outcome
  pub line_is : line ≡ line_of_outcome outcome
  pub status_is : status ≡ status_of entries outcome

-- Why a trace is not replayed.
abbrev pub StopsReplay : Contents → TraceContents → CliFault → Type 0
StopsReplay program trace ShapeFault = DeclareSame program.known trace.known → ⊥
StopsReplay program trace (Illegal number) = DeclareSame program.known trace.known × StopsGate trace (Illegal number)
StopsReplay program trace Limit = DeclareSame program.known trace.known × StopsGate trace Limit
StopsReplay program trace Memory = Unit {0}
StopsReplay program trace fault = ⊥

-- ---- reading and writing

-- Both texts were read, and mean a program and a trace.
pub record AreRead (program trace : Reading) (contents : Contents) (trace_contents : TraceContents) : Type 0 where
  pub program_text : List ℕ
  pub trace_text : List ℕ
  pub program_read : IsRead program.before program.behind program_text
  pub trace_read : IsRead trace.before trace.behind trace_text
  pub program_means : TextMeans program_text contents
  pub trace_means : TraceMeans trace_text trace_contents

-- A program and a trace were read, and the line of their replay was written.
pub record IsReplayed (program trace : Reading) (wrote writes : Option (List ℕ)) (status : ℕ) : Type 0 where
  pub contents : Contents
  pub trace_contents : TraceContents
  pub line : List ℕ
  pub read : AreRead program trace contents trace_contents
  pub replays : ReplaysContents contents trace_contents line status
  pub written : Appends wrote writes line

-- A program and a trace were read, and only a part of the line of their replay could be written.
pub record IsReplayCut (program trace : Reading) (wrote writes : Option (List ℕ)) : Type 0 where
  pub contents : Contents
  pub trace_contents : TraceContents
  pub line : List ℕ
  pub status : ℕ
  pub part : List ℕ
  pub rest : List ℕ
  pub read : AreRead program trace contents trace_contents
  pub replays : ReplaysContents contents trace_contents line status
  pub written : Appends wrote writes part
  pub prefix : part ++ rest ≡ line

-- A program and a trace were read, and they are not replayed.
pub record IsReplayStopped (program trace : Reading) (fault : CliFault) : Type 0 where
  pub contents : Contents
  pub trace_contents : TraceContents
  pub read : AreRead program trace contents trace_contents
  pub stops : StopsReplay contents trace_contents fault

-- A program was read.
abbrev pub HasProgram : Reading → Type 0
HasProgram program = (contents : Contents) × IsProgramRead program contents

-- Why a replay is not written, or not wholly: each fault has its cause. The trace is told to be at fault only behind a program that is none.
abbrev pub HasReplayCause : (program trace : Reading) → (wrote writes : Option (List ℕ)) → CliFault → Type 0
HasReplayCause program trace wrote writes (Usage text) = ⊥
HasReplayCause program trace wrote writes Read = Unit {0}
HasReplayCause program trace wrote writes Write = IsReplayCut program trace wrote writes
HasReplayCause program trace wrote writes TooLong = StopsReader program TooLong ⊎ (HasProgram program × StopsReader trace TooLong)
HasReplayCause program trace wrote writes (Program fault) = IsFaultyProgram program.before program.behind (Program fault)
HasReplayCause program trace wrote writes (Trace fault) = HasProgram program × IsFaulty trace.before trace.behind (Trace fault)
HasReplayCause program trace wrote writes Memory = Unit {0}
HasReplayCause program trace wrote writes fault = IsReplayStopped program trace fault
