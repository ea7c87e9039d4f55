-- What each step of recording a run says of the whole.
use Rattle.std.proofs.Common.{◌≡◌, ◌≢◌, ◌≤◌, ◌↔◌, ℕ, Bool, List, [], length, reverse, Option, None, Result, Ok, Err, IfOk, IfErr, OnOk, IsErrOf, IsTrue, refl, sym, ap, subst}
use Rattle.std.specs.Io.KnownBytes.{Appends}
use Rattle.command_streams.specs.declared.fault.CliFault.{CliFault}
use Rattle.command_streams.specs.declared.fault.CliFault.TheVariants.{Write, Unwritten, Limit, Stopped, Torn, Strange, Memory}
use Rattle.command_streams.specs.Readings.{Reading, reading}
use Rattle.command_streams.specs.Streams.{StopsWriting}
use Rattle.program_text.specs.Drafts.{Contents}
use Rattle.tool_commands.specs.Runs.{run_line, IsRunFault, IsRunStopped, IsProgramRead, IsRan}
use Rattle.tool_commands.specs.Traced.{Writing, writing, TellsTraced, IsReadTraced, IsTraced, IsReportCut, StopsRun, StopsTelling, HasTracedCause}
use Rattle.tool_commands.specs.Traced.{TellsTrace, IsTraceWritten, HasTraceCause}
use Rattle.model_histories.specs.declared.answer.Entry.{Entry}
use Rattle.model_histories.specs.Shapes.{most_entries}
use Rattle.model_races.specs.Memory.{IsMemory}
use Rattle.model_runs.specs.Runs.{IsFinishedRun}
use Rattle.program_text.specs.declared.program.Program.{Program}
use Rattle.program_text.specs.Programs.{contents}
use Rattle.program_text.specs.Shapes.{shape_in}
use Rattle.trace_text.specs.Grammar.{TextMeans as TraceMeans}
use Rattle.trace_text.specs.Printing.{plain_text}
use Rattle.run_traces.specs.Traces.{trace_contents}
use Rattle.run_traces.specs.Laws.{IsRunOf}
use Rattle.tool_commands.specs.Outcomes.{refusal_status}
use Rattle.tool_commands.proofs.CleanReports.{tells_run}
use Rattle.tool_commands.proofs.RunCauses.{ran_status}

-- there is no run to be told
pub no_run_cause : (reader : Reading) (traced traces wrote writes : Option (List ℕ)) (limit : ℕ) (fault : CliFault) → StopsRun reader limit fault →
    HasTracedCause reader (writing traced traces) (writing wrote writes) limit fault
no_run_cause reader traced traces wrote writes limit Write stops = absurd stops.stops
no_run_cause reader traced traces wrote writes limit Unwritten stops = absurd stops.stops
no_run_cause reader traced traces wrote writes limit fault stops = stops

-- which is no fault of writing
pub run_not_written : (reader : Reading) (limit : ℕ) (fault : CliFault) → StopsRun reader limit fault → fault ≡ Write → ⊥
run_not_written reader limit fault stops write =
    let stopped : IsRunStopped reader limit Write = subst (λ (f : CliFault). StopsRun reader limit f) write stops in stopped.stops

-- what is told of a run could not be written
pub telling_cause : (reader : Reading) (traced traces wrote writes : Option (List ℕ)) (limit : ℕ) (line trace : List ℕ) (status : ℕ) (fault : CliFault) →
    IsReadTraced reader limit line trace status → StopsTelling (writing traced traces) (writing wrote writes) trace line fault → HasTracedCause reader (writing traced traces) (writing wrote writes) limit fault
telling_cause reader traced traces wrote writes limit line trace status Unwritten told stops = record {
  line = line;
  trace = trace;
  status = status;
  part = stops.0;
  rest = stops.1;
  told = told;
  kept = stops.2;
  prefix = stops.3;
}
telling_cause reader traced traces wrote writes limit line trace status Write told stops = record {
  line = line;
  trace = trace;
  status = status;
  part = stops.1;
  rest = stops.2;
  told = told;
  kept = stops.0;
  written = stops.3;
  prefix = stops.4;
}
telling_cause reader traced traces wrote writes limit line trace status fault told stops = absurd stops

-- as where the trace could not be
pub trace_unwritten : (traced traces wrote writes : Option (List ℕ)) (trace line : List ℕ) (fault : CliFault) → StopsWriting traced traces trace fault →
    StopsTelling (writing traced traces) (writing wrote writes) trace line Unwritten
trace_unwritten traced traces wrote writes trace line Write stops = stops
trace_unwritten traced traces wrote writes trace line fault stops = absurd stops

pub unwritten_failed : {S T : Type 0} (fault : CliFault) (failed : Bool) → fault ≡ Write → (IsErrOf {T = S} (Err fault) Write ↔ IsTrue failed) →
    IsErrOf {T = T} (Err Unwritten) Unwritten ↔ IsTrue failed
unwritten_failed fault failed is step = ((λ told. step.0 (ap (λ (f : CliFault). Err f) is)), (λ failing. refl))

-- a writer has failed then
pub telling_writes : (traced traces wrote writes : Option (List ℕ)) (trace line : List ℕ) (fault : CliFault) → StopsTelling (writing traced traces) (writing wrote writes) trace line fault →
    fault ≢ Unwritten → fault ≢ Write → ⊥
telling_writes traced traces wrote writes trace line Unwritten stops no_trace no_write = no_trace refl
telling_writes traced traces wrote writes trace line Write stops no_trace no_write = no_write refl
telling_writes traced traces wrote writes trace line fault stops no_trace no_write = absurd stops

-- what is told of a run was written
pub told_written : (reader : Reading) (traced traces wrote writes : Option (List ℕ)) (limit : ℕ) (line trace : List ℕ) (told_status : ℕ) (result : Result ℕ CliFault) →
    IsReadTraced reader limit line trace told_status → IfOk result (λ status. status ≡ told_status) → OnOk result (Appends traced traces trace) →
    OnOk result (Appends wrote writes line) → IfOk result (IsTraced reader (writing traced traces) (writing wrote writes) limit)
told_written reader traced traces wrote writes limit line trace told_status (Ok status) told is kept written = record {
  line = line;
  trace = trace;
  told = subst (λ (n : ℕ). IsReadTraced reader limit line trace n) (sym is) told;
  kept = kept;
  written = written;
}
told_written reader traced traces wrote writes limit line trace told_status (Err fault) told is kept written = tt

-- the report is that of a run
pub traced_ran : (reader : Reading) (traced traces wrote writes : Option (List ℕ)) (limit status : ℕ) → IsTraced reader (writing traced traces) (writing wrote writes) limit status →
    IsRan reader wrote writes limit status
traced_ran reader traced traces wrote writes limit status done = record {
  program = done.told.program;
  line = done.line;
  read = done.told.read;
  tells = done.told.tells.tells;
  written = done.written;
}

-- ---- a run that is recorded, of the program that a source holds

abbrev RecordCause : (source wrote writes : Option (List ℕ)) → (limit : ℕ) → CliFault → Type 0
RecordCause source wrote writes limit fault = (behind : Option (List ℕ)) × (traces : Writing) ×
    HasTracedCause (reading source behind) traces (writing wrote writes) limit fault

-- there is no run
pub not_run : (source held behind wrote writes : Option (List ℕ)) (limit : ℕ) (fault : CliFault) → StopsRun (reading held behind) limit fault → held ≡ source →
    RecordCause source wrote writes limit fault
not_run source held behind wrote writes limit fault stops is =
    (behind, writing None None, no_run_cause (reading source behind) None None wrote writes limit fault (subst (λ (s : Option (List ℕ)). StopsRun (reading s behind) limit fault) is stops))

module _ (source held behind : Option (List ℕ)) (limit : ℕ) (line trace : List ℕ) (status : ℕ) (told : IsReadTraced (reading held behind) limit line trace status) (is : held ≡ source) where
  told_of : IsReadTraced (reading source behind) limit line trace status
  told_of = subst (λ (s : Option (List ℕ)). IsReadTraced (reading s behind) limit line trace status) is told

  -- the trace's file could not be created
  pub not_created : (wrote writes : Option (List ℕ)) (fault : CliFault) → fault ≡ Unwritten → RecordCause source wrote writes limit fault
  not_created wrote writes fault named =
      subst (λ (f : CliFault). RecordCause source wrote writes limit f) (sym named)
      (behind, writing None None, record { line = line; trace = trace; status = status; part = []; rest = trace; told = told_of; kept = tt; prefix = refl })

  -- what is told could not be written
  pub not_written : (traced traces wrote writes : Option (List ℕ)) (fault : CliFault) → StopsTelling (writing traced traces) (writing wrote writes) trace line fault →
      RecordCause source wrote writes limit fault
  not_written traced traces wrote writes fault stops =
      (behind, writing traced traces, telling_cause (reading source behind) traced traces wrote writes limit line trace status fault told_of stops)

  -- the report was written
  pub recorded_ran : (traced traces wrote writes : Option (List ℕ)) (result : Result ℕ CliFault) → IfOk result (λ ended. ended ≡ status) →
      OnOk result (Appends traced traces trace) → OnOk result (Appends wrote writes line) →
      IfOk result (λ ended. (behind : Option (List ℕ)) × IsRan (reading source behind) wrote writes limit ended)
  recorded_ran traced traces wrote writes (Ok ended) ends kept written = (
    behind,
    traced_ran (reading source behind) traced traces wrote writes limit ended
        (told_written (reading source behind) traced traces wrote writes limit line trace status (Ok ended) told_of ends kept written),
  )
  recorded_ran traced traces wrote writes (Err fault) ends kept written = tt

  -- and the trace, to a file that held `blank` and holds `made`
  pub recorded_kept : (traced traces blank made wrote writes : Option (List ℕ)) (result : Result ℕ CliFault) → IfOk result (λ ended. ended ≡ status) →
      OnOk result (Appends traced traces trace) → OnOk result (Appends wrote writes line) → traced ≡ blank → made ≡ traces →
      IfOk result (λ ended. (behind : Option (List ℕ)) × IsTraced (reading source behind) (writing blank made) (writing wrote writes) limit ended)
  recorded_kept traced traces blank made wrote writes (Ok ended) ends kept written begun left = (
    behind,
    told_written (reading source behind) blank made wrote writes limit line trace status (Ok ended) told_of ends
        (subst (λ (b : Option (List ℕ)). Appends b made trace) begun (subst (λ (m : Option (List ℕ)). Appends traced m trace) (sym left) kept)) written,
  )
  recorded_kept traced traces blank made wrote writes (Err fault) ends kept written begun left = tt

  -- also where only a part of the report was
  pub recorded_first : (traced traces blank made wrote writes : Option (List ℕ)) (result : Result ℕ CliFault) →
      IfErr result (StopsTelling (writing traced traces) (writing wrote writes) trace line) → traced ≡ blank → made ≡ traces →
      IfErr result (λ fault. fault ≡ Write → (behind : Option (List ℕ)) × IsReportCut (reading source behind) (writing blank made) (writing wrote writes) limit)
  recorded_first traced traces blank made wrote writes (Ok ended) stops begun left = tt
  recorded_first traced traces blank made wrote writes (Err fault) stops begun left = λ named. (
    behind,
    subst (λ (f : CliFault). HasTracedCause (reading source behind) (writing blank made) (writing wrote writes) limit f) named
        (telling_cause (reading source behind) blank made wrote writes limit line trace status fault told_of
        (subst (λ (b : Option (List ℕ)). StopsTelling (writing b made) (writing wrote writes) trace line fault) begun
        (subst (λ (m : Option (List ℕ)). StopsTelling (writing traced m) (writing wrote writes) trace line fault) (sym left) stops))),
  )

-- ---- a run and its trace

-- a finished run with its report and its trace
pub traced_tells : {A : Type 0} (program : Program A) (limit : ℕ) (entries : List Entry) (memory line trace : List ℕ) (status : ℕ) →
    IsFinishedRun program.functions (shape_in program) (reverse entries) → length entries ≤ limit → length entries ≤ most_entries →
    IsMemory (shape_in program).cells (reverse entries) memory → line ≡ run_line (contents program) entries memory → status ≡ refusal_status entries →
    trace ≡ plain_text (trace_contents (contents program) entries) → (IsRunOf (contents program) entries → ∥ TraceMeans trace (trace_contents (contents program) entries) ∥₁) →
    TellsTraced (contents program) limit line trace status
unfolding tells_run
traced_tells program limit entries memory line trace status run within few left line_is status_is trace_is means = record {
  tells = tells_run program limit entries memory line status run within left line_is status_is;
  trace_is = trace_is;
  means = means (record { run = run.0; few = few });
}

-- ---- the trace in place of the report

-- there is no run of the program that was read
pub trace_stops : (reader : Reading) (wrote writes : Option (List ℕ)) (limit : ℕ) (program : Contents) (fault : CliFault) → IsProgramRead reader program → IsRunFault program limit fault →
    HasTraceCause reader wrote writes limit fault
trace_stops reader wrote writes limit program Limit read stops = record { program = program; read = read; stops = stops }
trace_stops reader wrote writes limit program Stopped read stops = record { program = program; read = read; stops = stops }
trace_stops reader wrote writes limit program Torn read stops = record { program = program; read = read; stops = stops }
trace_stops reader wrote writes limit program Strange read stops = record { program = program; read = read; stops = stops }
trace_stops reader wrote writes limit program Memory read stops = tt
trace_stops reader wrote writes limit program fault read stops = absurd stops

-- only a part of the trace could be written
pub trace_cut : (reader : Reading) (wrote writes : Option (List ℕ)) (limit : ℕ) (program : Contents) (trace : List ℕ) (status : ℕ) (fault : CliFault) →
    IsProgramRead reader program → TellsTrace program limit trace status → StopsWriting wrote writes trace fault → HasTraceCause reader wrote writes limit fault
trace_cut reader wrote writes limit program trace status Write read tells stops = record {
  line = tells.0;
  trace = trace;
  status = status;
  part = stops.0;
  rest = stops.1;
  told = record { program = program; read = read; tells = tells.1 };
  kept = stops.2;
  prefix = stops.3;
}
trace_cut reader wrote writes limit program trace status fault read tells stops = absurd stops

-- the trace was written
pub trace_written : (reader : Reading) (wrote writes : Option (List ℕ)) (limit : ℕ) (program : Contents) (trace : List ℕ) (status : ℕ) →
    IsProgramRead reader program → TellsTrace program limit trace status → Appends wrote writes trace → IsTraceWritten reader wrote writes limit status
trace_written reader wrote writes limit program trace status read tells written = record {
  line = tells.0;
  trace = trace;
  told = record { program = program; read = read; tells = tells.1 };
  written = written;
}

pub trace_status : (reader : Reading) (wrote writes : Option (List ℕ)) (limit status : ℕ) → IsTraceWritten reader wrote writes limit status → status ≤ 4
trace_status reader wrote writes limit status done =
    ran_status reader None None limit status
    (record { program = done.told.program; line = done.line; read = done.told.read; tells = done.told.tells.tells; written = tt })
