-- What each step of running a program says of the whole.
use Rattle.std.proofs.Common.{◌≤◌, ℕ, Bool, true, false, if◌then◌else◌, List, Option, sym, subst, arith}
use Rattle.std.specs.List.{list_any}
use Rattle.model_histories.specs.declared.answer.Entry.{Entry}
use Rattle.program_text.specs.Drafts.{Contents}
use Rattle.locked_replay.specs.declared.fault.RunFault.{RunFault}
use Rattle.locked_replay.specs.declared.fault.RunFault.TheVariants as run
use Rattle.program_runs.specs.Runs.{LacksRun}
use Rattle.command_streams.specs.declared.fault.CliFault.{CliFault}
use Rattle.command_streams.specs.declared.fault.CliFault.TheVariants.{Write, Limit, Stopped, Torn, Strange, Memory}
use Rattle.verdict_lines.specs.VerdictText.{is_refused}
use Rattle.command_streams.specs.Streams.{StopsWriting}
use Rattle.command_streams.specs.Readings.{Reading}
use Rattle.tool_commands.specs.Programs.{shape_of_program}
use Rattle.tool_commands.specs.Runs.{fault_of_run, IsRunFault, TellsRun, IsProgramRead, IsRan, HasRunCause}

-- why there is no finished run is why the command has none
pub run_lacking : (program : Contents) (limit : ℕ) (fault : RunFault) → LacksRun program.functions (shape_of_program program) limit fault →
    IsRunFault program limit (fault_of_run fault)
run_lacking program limit run.Limit lacks = lacks
run_lacking program limit run.Stopped lacks = lacks
run_lacking program limit run.Torn lacks = lacks
run_lacking program limit run.Strange lacks = lacks
run_lacking program limit run.Memory lacks = lacks

-- a program was read, and there is no finished run of it
pub run_stops : (reader : Reading) (wrote writes : Option (List ℕ)) (limit : ℕ) (program : Contents) (fault : CliFault) → IsProgramRead reader program → IsRunFault program limit fault →
    HasRunCause reader wrote writes limit fault
run_stops reader wrote writes limit program Limit read stops = record { program = program; read = read; stops = stops }
run_stops reader wrote writes limit program Stopped read stops = record { program = program; read = read; stops = stops }
run_stops reader wrote writes limit program Torn read stops = record { program = program; read = read; stops = stops }
run_stops reader wrote writes limit program Strange read stops = record { program = program; read = read; stops = stops }
run_stops reader wrote writes limit program Memory read stops = tt
run_stops reader wrote writes limit program fault read stops = absurd stops

-- at most 1 is the status of a run
few_by_tests : (refused : Bool) → (if refused then 1 else 0) ≤ 4
few_by_tests true = omega arith
few_by_tests false = omega arith

pub ran_status : (reader : Reading) (wrote writes : Option (List ℕ)) (limit status : ℕ) → IsRan reader wrote writes limit status → status ≤ 4
ran_status reader wrote writes limit status ran =
    subst (λ n. n ≤ 4) (sym ran.tells.status_is) (few_by_tests (list_any (λ (entry : Entry). is_refused entry.answer) ran.tells.entries))

-- only a part of its line could be written
pub run_cut : (reader : Reading) (wrote writes : Option (List ℕ)) (limit : ℕ) (program : Contents) (line : List ℕ) (status : ℕ) (fault : CliFault) →
    IsProgramRead reader program → TellsRun program limit line status → StopsWriting wrote writes line fault → HasRunCause reader wrote writes limit fault
run_cut reader wrote writes limit program line status Write read tells stops = record {
  program = program;
  line = line;
  status = status;
  part = stops.0;
  rest = stops.1;
  read = read;
  tells = tells;
  written = stops.2;
  prefix = stops.3;
}
run_cut reader wrote writes limit program line status fault read tells stops = absurd stops
