-- What is read of a trace, and what is drawn of it.
use Rattle.std.specs.Prelude.{ℕ, ◌≡◌, Option, List, ◌++◌, reverse}
use Rattle.std.specs.Io.KnownBytes.{Appends}
use Rattle.text_words.specs.Text.{lines}
use Rattle.text_words.specs.Values.{Contents}
use Rattle.trace_text.specs.Grammar.{TextMeans}
use Rattle.model_histories.specs.declared.answer.Entry.{Entry}
use Rattle.model_histories.specs.Entries.{control_part}
use Rattle.model_histories.specs.States.{GateState}
use Rattle.dag_drawing.specs.declared.drawing.Drawing.{Drawing}
use Rattle.dag_drawing.specs.Drawn.{IsDrawing, HasMoreStrands}
use Rattle.dag_drawing.specs.declared.form.Form.{Form}
use Rattle.dag_drawing.specs.Labels.{Naming}
use Rattle.dag_drawing.specs.Forms.{text_in}
use Rattle.trace_notes.specs.declared.notes.Notes.{Notes}
use Rattle.trace_notes.specs.Notes.{AreNotes}
use Rattle.command_streams.specs.declared.fault.CliFault.{CliFault}
use Rattle.command_streams.specs.declared.fault.CliFault.TheVariants.{Read, Write, TooLong, Trace, Illegal, Limit, TooManyStrands, Memory}
use Rattle.tool_commands.specs.Outcomes.{refusal_status}
use Rattle.command_streams.specs.Readings.{Reading, StopsReader}
use Rattle.tool_commands.specs.Replays.{AnswersAll, StopsGate}
use Rattle.command_streams.specs.Streams.{IsRead, IsFaulty, IsFaultOf}

-- ---- the drawing of a trace

-- what cells, reducers and marks are told by: what the trace declares, and notes
abbrev pub naming_in : Notes → Contents → Naming
naming_in notes trace = record { mems = trace.known.mems; reducers = trace.known.reducers; notes = notes }

-- A gate answered each request of the trace, and the text is that of the drawing of the gate's history in this language, by the names
-- that the trace declares and by notes. The status tells whether something was refused in it.
pub record DrawsContents (form : Form) (notes : Notes) (trace : Contents) (text : List ℕ) (status : ℕ) : Type 0 where
  pub gate : GateState
  pub answers : AnswersAll trace gate
  pub entries : List Entry
  pub history : reverse entries ≡ gate.history
  pub drawing : Drawing
  pub drawn : IsDrawing entries drawing
  pub text_is : text ≡ text_in form (naming_in notes trace) drawing
  pub status_is : status ≡ refusal_status entries

-- why entries, given from the oldest on, are not drawn
abbrev pub StopsEntries : List Entry → CliFault → Type 0
StopsEntries entries TooManyStrands = HasMoreStrands (control_part (reverse entries))
StopsEntries entries Memory = Unit {0}
StopsEntries entries fault = ⊥

-- A gate answered each request of the trace, and more strands have begun than a drawing may have.
pub record HasTooManyStrands (trace : Contents) : Type 0 where
  pub gate : GateState
  pub answers : AnswersAll trace gate
  pub more : HasMoreStrands (control_part gate.history)

-- Why a trace is not drawn.
abbrev pub StopsDrawing : Contents → CliFault → Type 0
StopsDrawing trace (Illegal number) = StopsGate trace (Illegal number)
StopsDrawing trace Limit = StopsGate trace Limit
StopsDrawing trace TooManyStrands = HasTooManyStrands trace
StopsDrawing trace Memory = Unit {0}
StopsDrawing trace fault = ⊥

-- The bytes mean a trace, and the text is its drawing, by the notes of those very bytes.
pub record DrawsText (form : Form) (bytes text : List ℕ) (status : ℕ) : Type 0 where
  pub trace : Contents
  pub means : TextMeans bytes trace
  pub notes : Notes
  pub noted : AreNotes (lines bytes) notes
  pub draws : DrawsContents form notes trace text status

-- The bytes mean a trace, which is not drawn.
pub record IsUndrawn (bytes : List ℕ) (fault : CliFault) : Type 0 where
  pub trace : Contents
  pub means : TextMeans bytes trace
  pub stops : StopsDrawing trace fault

-- Why the trace that the bytes are to mean is not drawn.
abbrev pub StopsText : (bytes : List ℕ) → CliFault → Type 0
StopsText bytes (Trace fault) = IsFaultOf bytes (Trace fault)
StopsText bytes Memory = Unit {0}
StopsText bytes fault = IsUndrawn bytes fault

-- ---- reading and writing

-- The text was read, and means this trace.
pub record IsTraceRead (reader : Reading) (trace : Contents) : Type 0 where
  pub text : List ℕ
  pub read : IsRead reader.before reader.behind text
  pub means : TextMeans text trace

-- A trace was read, and its drawing was written, by the notes of the text that was read.
pub record IsDrawn (form : Form) (reader : Reading) (wrote writes : Option (List ℕ)) (status : ℕ) : Type 0 where
  pub trace : Contents
  pub text : List ℕ
  pub read : IsTraceRead reader trace
  pub notes : Notes
  pub noted : AreNotes (lines read.text) notes
  pub draws : DrawsContents form notes trace text status
  pub written : Appends wrote writes text

-- A trace was read, and only a part of its drawing could be written.
pub record IsDrawingCut (form : Form) (reader : Reading) (wrote writes : Option (List ℕ)) : Type 0 where
  pub trace : Contents
  pub text : List ℕ
  pub status : ℕ
  pub part : List ℕ
  pub rest : List ℕ
  pub read : IsTraceRead reader trace
  pub notes : Notes
  pub noted : AreNotes (lines read.text) notes
  pub draws : DrawsContents form notes trace text status
  pub written : Appends wrote writes part
  pub prefix : part ++ rest ≡ text

-- A trace was read, and it is not drawn.
pub record IsDrawingStopped (reader : Reading) (fault : CliFault) : Type 0 where
  pub trace : Contents
  pub read : IsTraceRead reader trace
  pub stops : StopsDrawing trace fault

-- Why a drawing is not written, or not wholly: each fault has its cause.
abbrev pub HasDrawingCause : Form → Reading → (wrote writes : Option (List ℕ)) → CliFault → Type 0
HasDrawingCause form reader wrote writes Read = Unit {0}
HasDrawingCause form reader wrote writes Write = IsDrawingCut form reader wrote writes
HasDrawingCause form reader wrote writes TooLong = StopsReader reader TooLong
HasDrawingCause form reader wrote writes (Trace fault) = IsFaulty reader.before reader.behind (Trace fault)
HasDrawingCause form reader wrote writes Memory = Unit {0}
HasDrawingCause form reader wrote writes fault = IsDrawingStopped reader fault
