-- What each step of drawing a trace says of the whole.
use Rattle.std.proofs.Common.{◌≡◌, ◌⊎◌, ◌∙◌, ℕ, List, Option, inl, inr, reverse, sym, ap, subst}
use Rattle.text_words.specs.declared.value.Mem.{Mem}
use Rattle.text_words.specs.declared.value.Reducer.{Reducer}
use Rattle.text_words.specs.Values.{Contents}
use Rattle.dag_drawing.specs.declared.drawing.Drawing.{Drawing}
use Rattle.dag_drawing.specs.declared.form.Form.{Form}
use Rattle.dag_drawing.specs.Labels.{Naming}
use Rattle.dag_drawing.specs.Forms.{text_in}
use Rattle.trace_notes.specs.declared.notes.Notes.{Notes}
use Rattle.command_streams.specs.declared.fault.CliFault.{CliFault}
use Rattle.command_streams.specs.declared.fault.CliFault.TheVariants.{Read, Write, TooLong, Trace, TooManyStrands, Memory}
use Rattle.std.specs.Io.KnownBytes.{Appends}
use Rattle.trace_text.specs.Grammar.{TextMeans}
use Rattle.command_streams.specs.Streams.{IsRead, IsFaultOf, StopsWriting}
use Rattle.command_streams.specs.Readings.{Reading}
use Rattle.model_histories.specs.declared.answer.Entry.{Entry}
use Rattle.model_histories.specs.declared.fault.GateFault.{GateFault}
use Rattle.model_histories.specs.declared.fault.GateFault.TheVariants.{Stopped as GateStopped, Limit as GateLimit, NotRunning, BadName, Unsynced, Memory as GateMemory}
use Rattle.model_histories.specs.Entries.{Entries, control_part}
use Rattle.model_histories.specs.States.{GateState}
use Rattle.dag_drawing.specs.Drawn.{HasMoreStrands}
use Rattle.tool_commands.specs.Replays.{AnswersAll, StopsGate, fault_of_request}
use Rattle.tool_commands.specs.Drawings.{naming_in, StopsEntries, DrawsText, StopsText, IsDrawn, HasDrawingCause}

abbrev naming_by : List Mem → List Reducer → Notes → Naming
naming_by mems reducers notes = record { mems = mems; reducers = reducers; notes = notes }

-- the text is by the names of the trace
pub text_named : (form : Form) (notes : Notes) (trace : Contents) (mems : List Mem) (reducers : List Reducer) (drawing : Drawing) (text : List ℕ) →
    mems ≡ trace.known.mems → reducers ≡ trace.known.reducers → text ≡ text_in form (naming_by mems reducers notes) drawing →
    text ≡ text_in form (naming_in notes trace) drawing
text_named form notes trace mems reducers drawing text same_mems same_reducers is =
    is ∙ ap (λ (l : List Mem). text_in form (naming_by l reducers notes) drawing) same_mems ∙
    ap (λ (l : List Reducer). text_in form (naming_by trace.known.mems l notes) drawing) same_reducers

-- the bytes were read, and their trace is not drawn
pub drawing_stops : (form : Form) (reader : Reading) (wrote writes : Option (List ℕ)) (bytes : List ℕ) (fault : CliFault) →
    IsRead reader.before reader.behind bytes → StopsText bytes fault → HasDrawingCause form reader wrote writes fault
drawing_stops form reader wrote writes bytes Read read stops = tt
drawing_stops form reader wrote writes bytes Write read stops = absurd stops.stops
drawing_stops form reader wrote writes bytes TooLong read stops = absurd stops.stops
drawing_stops form reader wrote writes bytes (Trace why) read stops = record { text = bytes; read = read; faulty = stops }
drawing_stops form reader wrote writes bytes Memory read stops = tt
drawing_stops form reader wrote writes bytes fault read stops =
    record { trace = stops.trace; read = record { text = bytes; read = read; means = stops.means }; stops = stops.stops }

-- which is no fault of a device
pub drawing_unread : (bytes : List ℕ) → StopsText bytes Read → ⊥
drawing_unread bytes stops = stops.stops

pub drawing_unwritten : (bytes : List ℕ) → StopsText bytes Write → ⊥
drawing_unwritten bytes stops = stops.stops

-- the drawing was written
pub drawn_whole : (form : Form) (reader : Reading) (wrote writes : Option (List ℕ)) (bytes text : List ℕ) (status : ℕ) →
    IsRead reader.before reader.behind bytes → DrawsText form bytes text status → Appends wrote writes text → IsDrawn form reader wrote writes status
drawn_whole form reader wrote writes bytes text status read draws written = record {
  trace = draws.trace;
  text = text;
  read = record { text = bytes; read = read; means = draws.means };
  notes = draws.notes;
  noted = draws.noted;
  draws = draws.draws;
  written = written;
}

-- only a part of it could be written
pub drawing_cut : (form : Form) (reader : Reading) (wrote writes : Option (List ℕ)) (bytes text : List ℕ) (status : ℕ) (fault : CliFault) →
    IsRead reader.before reader.behind bytes → DrawsText form bytes text status → StopsWriting wrote writes text fault →
    HasDrawingCause form reader wrote writes fault
drawing_cut form reader wrote writes bytes text status Write read draws stops = record {
  trace = draws.trace;
  text = text;
  status = status;
  part = stops.0;
  rest = stops.1;
  read = record { text = bytes; read = read; means = draws.means };
  notes = draws.notes;
  noted = draws.noted;
  draws = draws.draws;
  written = stops.2;
  prefix = stops.3;
}
drawing_cut form reader wrote writes bytes text status fault read draws stops = absurd stops

-- ---- why the trace of some bytes is not drawn

-- they mean none
pub untraced : (bytes : List ℕ) (fault : CliFault) → IsFaultOf bytes fault → StopsText bytes fault
untraced bytes (Trace why) stops = stops
untraced bytes Memory stops = tt
untraced bytes fault stops = absurd stops

request_stops : (bytes : List ℕ) (trace : Contents) (number : ℕ) (cause : GateFault) → TextMeans bytes trace →
    StopsGate trace (fault_of_request number cause) → StopsText bytes (fault_of_request number cause)
request_stops bytes trace number GateMemory means stops = tt
request_stops bytes trace number GateLimit means stops = record { trace = trace; means = means; stops = stops }
request_stops bytes trace number GateStopped means stops = record { trace = trace; means = means; stops = stops }
request_stops bytes trace number NotRunning means stops = record { trace = trace; means = means; stops = stops }
request_stops bytes trace number BadName means stops = record { trace = trace; means = means; stops = stops }
request_stops bytes trace number Unsynced means stops = record { trace = trace; means = means; stops = stops }

-- a gate does not answer one of its requests
pub unanswered : (bytes : List ℕ) (trace : Contents) (fault : CliFault) → TextMeans bytes trace → (fault ≡ Memory) ⊎ StopsGate trace fault → StopsText bytes fault
unanswered bytes trace fault means (inl is) = subst (StopsText bytes) (sym is) tt
unanswered bytes trace fault means (inr stops) =
    subst (StopsText bytes) (sym stops.named)
    (request_stops bytes trace stops.stop.number stops.stop.fault means (subst (StopsGate trace) stops.named stops))

-- too many strands have begun
pub undrawn : (bytes : List ℕ) (trace : Contents) (gate : GateState) (entries : List Entry) (fault : CliFault) → TextMeans bytes trace → AnswersAll trace gate →
    reverse entries ≡ gate.history → StopsEntries entries fault → StopsText bytes fault
undrawn bytes trace gate entries TooManyStrands means answers same stops = record {
  trace = trace;
  means = means;
  stops = record { gate = gate; answers = answers; more = subst (λ (h : Entries). HasMoreStrands (control_part h)) same stops };
}
undrawn bytes trace gate entries Memory means answers same stops = tt
undrawn bytes trace gate entries fault means answers same stops = absurd stops
