-- What each step of replaying a trace says of the whole.
use Rattle.std.proofs.Common.{◌≡◌, ◌⊎◌, ℕ, List, Option, inl, inr, sym, subst}
use Rattle.text_words.specs.Values.{Contents as TraceContents}
use Rattle.program_text.specs.Drafts.{Contents}
use Rattle.model_histories.specs.declared.fault.GateFault.{GateFault}
use Rattle.model_histories.specs.declared.fault.GateFault.TheVariants.{Stopped as GateStopped, Limit as GateLimit, NotRunning, BadName, Unsynced, Memory as GateMemory}
use Rattle.command_streams.specs.declared.fault.CliFault.{CliFault}
use Rattle.command_streams.specs.declared.fault.CliFault.TheVariants.{Read, Write, TooLong, Trace, Shape, Illegal, Limit, Memory}
use Rattle.tool_commands.specs.Declarations.{DeclareSame}
use Rattle.command_streams.specs.Streams.{StopsWriting, IsMeant, StopsTrace}
use Rattle.command_streams.specs.Readings.{Reading}
use Rattle.tool_commands.specs.Runs.{IsProgramRead}
use Rattle.tool_commands.specs.Replays.{AreRead, HasProgram, StopsGate, fault_of_request, ReplaysContents, StopsReplay, HasReplayCause}

request_cause : (program : Contents) (trace : TraceContents) (number : ℕ) (cause : GateFault) → DeclareSame program.known trace.known →
    StopsGate trace (fault_of_request number cause) → StopsReplay program trace (fault_of_request number cause)
request_cause program trace number GateLimit same stops = (same, stops)
request_cause program trace number GateMemory same stops = tt
request_cause program trace number GateStopped same stops = (same, stops)
request_cause program trace number NotRunning same stops = (same, stops)
request_cause program trace number BadName same stops = (same, stops)
request_cause program trace number Unsynced same stops = (same, stops)

-- an illegal request stops the replay by its fault
pub gate_cause : (program : Contents) (trace : TraceContents) (fault : CliFault) → DeclareSame program.known trace.known →
    (fault ≡ Memory) ⊎ StopsGate trace fault → StopsReplay program trace fault
gate_cause program trace fault same (inl is) = subst (StopsReplay program trace) (sym is) tt
gate_cause program trace fault same (inr stops) =
    subst (StopsReplay program trace) (sym stops.named)
    (request_cause program trace stops.stop.number stops.stop.fault same (subst (StopsGate trace) stops.named stops))

-- both texts were read, and there is no replay
pub replay_stops : (program trace : Reading) (wrote writes : Option (List ℕ)) (contents : Contents) (trace_contents : TraceContents) (fault : CliFault) →
    AreRead program trace contents trace_contents → StopsReplay contents trace_contents fault → HasReplayCause program trace wrote writes fault
replay_stops program trace wrote writes contents trace_contents Shape read stops = record { contents = contents; trace_contents = trace_contents; read = read; stops = stops }
replay_stops program trace wrote writes contents trace_contents (Illegal number) read stops =
    record { contents = contents; trace_contents = trace_contents; read = read; stops = stops }
replay_stops program trace wrote writes contents trace_contents Limit read stops = record { contents = contents; trace_contents = trace_contents; read = read; stops = stops }
replay_stops program trace wrote writes contents trace_contents Memory read stops = tt
replay_stops program trace wrote writes contents trace_contents fault read stops = absurd stops

-- only a part of its line could be written
pub replay_cut : (program trace : Reading) (wrote writes : Option (List ℕ)) (contents : Contents) (trace_contents : TraceContents) (line : List ℕ) (status : ℕ) (fault : CliFault) →
    AreRead program trace contents trace_contents → ReplaysContents contents trace_contents line status → StopsWriting wrote writes line fault →
    HasReplayCause program trace wrote writes fault
replay_cut program trace wrote writes contents trace_contents line status Write read replays stops = record {
  contents = contents;
  trace_contents = trace_contents;
  line = line;
  status = status;
  part = stops.0;
  rest = stops.1;
  read = read;
  replays = replays;
  written = stops.2;
  prefix = stops.3;
}
replay_cut program trace wrote writes contents trace_contents line status fault read replays stops = absurd stops

-- both were read
pub both_read : (program trace : Reading) (contents : Contents) (trace_contents : TraceContents) → IsProgramRead program contents →
    IsMeant trace.before trace.behind trace_contents → AreRead program trace contents trace_contents
both_read program trace contents trace_contents first second = record {
  program_text = first.text;
  trace_text = second.text;
  program_read = first.read;
  trace_read = second.read;
  program_means = first.means;
  trace_means = second.means;
}

-- no trace is read
pub no_trace : (program trace : Reading) (wrote writes : Option (List ℕ)) (fault : CliFault) → HasProgram program →
    StopsTrace trace.before trace.behind fault → HasReplayCause program trace wrote writes fault
no_trace program trace wrote writes Read first stops = tt
no_trace program trace wrote writes TooLong first stops = inr (first, stops)
no_trace program trace wrote writes (Trace why) first stops = (first, stops)
no_trace program trace wrote writes Memory first stops = tt
no_trace program trace wrote writes fault first stops = absurd stops
