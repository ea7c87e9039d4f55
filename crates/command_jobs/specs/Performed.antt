-- What a job does: from what standard input and files hold to what is written, and the status.
use Rattle.std.specs.Prelude.{ℕ, Bool, true, false, ◌≡◌, ◌⊎◌, Option, Some, None, Result, Ok, Err, IfOk, IfErr, IsErrOf, List, codes, map, String, if◌then◌else◌}
use Rattle.std.specs.String.{string_bytes}
use Rattle.std.specs.Str.{bytes_eq}
use Rattle.std.specs.Io.KnownBytes.{Appends}
use Rattle.model_histories.specs.declared.reply.Reply.{Reply}
use Rattle.command_streams.specs.declared.fault.CliFault.{CliFault}
use Rattle.command_streams.specs.declared.fault.CliFault.TheVariants.{Read}
use Rattle.command_words.specs.declared.words.Job.{Job}
use Rattle.command_words.specs.declared.words.Job.TheVariants.{Judge, Elide, Run, Trace, Record, Explain, ExplainInput, ExplainTraces, Replay, Draw, Show}
use Rattle.command_words.specs.Asked.{input_word}
use Rattle.command_words.specs.declared.words.Color.{Color}
use Rattle.command_words.specs.declared.words.Color.TheVariants.{Auto, Always, Never}
use Rattle.command_words.specs.declared.words.Language.{Language}
use Rattle.command_words.specs.declared.words.Language.TheVariants.{Dot, Svg}
use Rattle.command_words.specs.declared.words.Format.{Format}
use Rattle.command_words.specs.declared.words.Format.TheVariants.{Text, Json, Sarif}
use Rattle.tool_commands.specs.declared.explain.Rendering.{Rendering}
use Rattle.tool_commands.specs.declared.explain.Rendering.TheVariants.{Text as TextTold, Record as RecordTold}
use Rattle.race_records.specs.declared.form.RecordForm.TheVariants.{Json as AsJson, Sarif as AsSarif}
use Rattle.dag_drawing.specs.declared.form.Form.{Form}
use Rattle.dag_drawing.specs.declared.form.Form.TheVariants.{Dot as InDot, Svg as InSvg}
use Rattle.race_explanations.specs.declared.extent.Extent.{Extent}
use Rattle.race_explanations.specs.declared.extent.Extent.TheVariants.{First, All}
use Rattle.tool_commands.specs.Explanations.{Manner, IsExplained, HasExplanationCause}
use Rattle.tool_commands.specs.Drawings.{IsDrawn, HasDrawingCause}
use Rattle.tool_commands.specs.Elided.{IsElided, HasElisionCause}
use Rattle.command_streams.specs.Faults.{status_of_fault}
use Rattle.command_streams.specs.Readings.{reading}
use Rattle.tool_commands.specs.Replays.{IsReplayed, HasReplayCause}
use Rattle.tool_commands.specs.Runs.{IsRan, HasRunCause}
use Rattle.command_streams.specs.Sources.{Sources}
use Rattle.judge_command.specs.Statuses.{status_of_replies}
use Rattle.command_streams.specs.Streams.{IsAnswered, HasCause, StopsWriting}
use Rattle.tool_commands.specs.Traced.{Writing, writing, IsTraced, IsTraceWritten, IsReportCut, HasTraceCause, HasTracedCause}
use Rattle.tool_commands.specs.Several.{style, lacks_first, AreExplained, HasSeveralCause}

-- the language of a drawing, as the words of the command line name it
abbrev pub form_of : Language → Form
form_of Dot = InDot
form_of Svg = InSvg

-- the form of an explanation, as the words of the command line name it
abbrev pub rendering_of : Format → Rendering
rendering_of Text = TextTold
rendering_of Json = RecordTold AsJson
rendering_of Sarif = RecordTold AsSarif

-- how much is told of races, as the words of the command line name it
abbrev pub extent_of : (is_all : Bool) → Extent
extent_of true = All
extent_of false = First

-- whether words are painted, as these words ask for: on a terminal, of which nothing is said here, always, or never
abbrev pub IsPaintedBy : Color → Bool → Type 0
IsPaintedBy Auto is_painted = Unit {0}
IsPaintedBy Always is_painted = is_painted ≡ true
IsPaintedBy Never is_painted = is_painted ≡ false

-- it is told by the name of the file, in this form
abbrev pub IsMannerOf : (file : List ℕ) → Color → Format → (is_all : Bool) → Manner → Type 0
IsMannerOf file color format is_all manner =
    (manner.file ≡ file) × IsPaintedBy color manner.is_painted × (manner.rendering ≡ rendering_of format) × (manner.extent ≡ extent_of is_all)

-- what standard input is called where a file's name would stand
abbrev pub input_name : List ℕ
input_name = codes "<stdin>"

-- what standard input holds, where the name stands for it, or else the file of this name
abbrev pub named : Sources → (name : List ℕ) → Option (List ℕ)
named sources name = if bytes_eq name input_word then sources.input else sources.file name

-- the name is a file's, which can't be opened
abbrev pub lacks_named : (List ℕ → Type 0) → (name : List ℕ) → Type 0
lacks_named lacks name = (bytes_eq name input_word ≡ false) × lacks name

-- what is judged: standard input where no name is given
abbrev pub judged : {A : Type 0} → Sources → Option (String A) → Option (List ℕ)
judged sources None = sources.input
judged sources (Some file) = named sources (string_bytes file)

-- the trace of a replay, which is a file where its program is standard input
abbrev pub replayed : Sources → (program trace : List ℕ) → Option (List ℕ)
replayed sources program trace = if bytes_eq program input_word then sources.file trace else named sources trace

abbrev pub lacks_replayed : (List ℕ → Type 0) → (program trace : List ℕ) → Type 0
lacks_replayed lacks program trace =
    ((bytes_eq program input_word ≡ true) ⊎ (bytes_eq trace input_word ≡ false)) × lacks trace

-- The job was done at this status. What a reader leaves behind is the end of what its source holds, where that is known.
abbrev pub IsPerformed : Sources → Job → (wrote writes : Option (List ℕ)) → (status : ℕ) → Type 0
IsPerformed sources (Judge file limit) wrote writes status =
    (behind : Option (List ℕ)) × (replies : List Reply) × (status ≡ status_of_replies replies) ×
    IsAnswered (judged sources file) behind wrote writes limit replies
IsPerformed sources (Elide file limit) wrote writes status = (behind : Option (List ℕ)) × (status ≡ 0) ×
    IsElided (named sources (string_bytes file)) behind wrote writes limit
IsPerformed sources (Run file workers limit) wrote writes status = (behind : Option (List ℕ)) ×
    IsRan (reading (named sources (string_bytes file)) behind) wrote writes limit status
IsPerformed sources (Trace file workers limit) wrote writes status = (behind : Option (List ℕ)) ×
    IsTraceWritten (reading (named sources (string_bytes file)) behind) wrote writes limit status
IsPerformed sources (Record file workers limit trace) wrote writes status = (behind : Option (List ℕ)) ×
    IsRan (reading (sources.file (string_bytes file)) behind) wrote writes limit status
IsPerformed sources (Explain file workers is_serial limit color format is_all) wrote writes status = (behind : Option (List ℕ)) × (manner : Manner) ×
    IsMannerOf (string_bytes file) color format is_all manner ×
    IsExplained manner (reading (sources.file (string_bytes file)) behind) wrote writes limit status
IsPerformed sources (ExplainInput workers is_serial limit color format is_all) wrote writes status = (behind : Option (List ℕ)) × (manner : Manner) ×
    IsMannerOf input_name color format is_all manner ×
    IsExplained manner (reading sources.input behind) wrote writes limit status
IsPerformed sources (ExplainTraces files color format is_all) wrote writes status = (is_painted : Bool) × IsPaintedBy color is_painted ×
    AreExplained (style is_painted (extent_of is_all) (rendering_of format)) sources.file (map string_bytes files.items)
    wrote writes status
IsPerformed sources (Replay file trace) wrote writes status = (program_behind : Option (List ℕ)) × (trace_behind : Option (List ℕ)) ×
    IsReplayed (reading (named sources (string_bytes file)) program_behind)
    (reading (replayed sources (string_bytes file) (string_bytes trace)) trace_behind)
    wrote writes status
IsPerformed sources (Draw file language) wrote writes status = (behind : Option (List ℕ)) ×
    IsDrawn (form_of language) (reading (named sources (string_bytes file)) behind) wrote writes status
IsPerformed sources (Show text) wrote writes status = (status ≡ 0) × Appends wrote writes (string_bytes text)

-- Why the job was not done, or not wholly: each fault has the cause that it has in the job's own call.
abbrev pub HasJobCause : Sources → Job → (wrote writes : Option (List ℕ)) → CliFault → Type 0
HasJobCause sources (Judge file limit) wrote writes fault = (behind : Option (List ℕ)) ×
    HasCause (judged sources file) behind wrote writes limit fault
HasJobCause sources (Elide file limit) wrote writes fault = (behind : Option (List ℕ)) ×
    HasElisionCause (named sources (string_bytes file)) behind wrote writes limit fault
HasJobCause sources (Run file workers limit) wrote writes fault = (behind : Option (List ℕ)) ×
    HasRunCause (reading (named sources (string_bytes file)) behind) wrote writes limit fault
HasJobCause sources (Trace file workers limit) wrote writes fault = (behind : Option (List ℕ)) ×
    HasTraceCause (reading (named sources (string_bytes file)) behind) wrote writes limit fault
HasJobCause sources (Record file workers limit trace) wrote writes fault =
    (behind : Option (List ℕ)) × (traces : Writing) ×
    HasTracedCause (reading (sources.file (string_bytes file)) behind) traces (writing wrote writes) limit fault
HasJobCause sources (Explain file workers is_serial limit color format is_all) wrote writes fault = (behind : Option (List ℕ)) × (manner : Manner) ×
    IsMannerOf (string_bytes file) color format is_all manner ×
    HasExplanationCause manner (reading (sources.file (string_bytes file)) behind) wrote writes limit fault
HasJobCause sources (ExplainInput workers is_serial limit color format is_all) wrote writes fault = (behind : Option (List ℕ)) × (manner : Manner) ×
    IsMannerOf input_name color format is_all manner ×
    HasExplanationCause manner (reading sources.input behind) wrote writes limit fault
HasJobCause sources (ExplainTraces files color format is_all) wrote writes fault = (is_painted : Bool) × IsPaintedBy color is_painted ×
    HasSeveralCause (style is_painted (extent_of is_all) (rendering_of format)) sources.file (map string_bytes files.items)
    wrote writes fault
HasJobCause sources (Replay file trace) wrote writes fault = (program_behind : Option (List ℕ)) × (trace_behind : Option (List ℕ)) ×
    HasReplayCause (reading (named sources (string_bytes file)) program_behind)
    (reading (replayed sources (string_bytes file) (string_bytes trace)) trace_behind)
    wrote writes fault
HasJobCause sources (Draw file language) wrote writes fault = (behind : Option (List ℕ)) ×
    HasDrawingCause (form_of language) (reading (named sources (string_bytes file)) behind) wrote writes fault
HasJobCause sources (Show text) wrote writes fault = StopsWriting wrote writes (string_bytes text) fault

-- Of a job that records: the file of the trace, which held `blank` when it was made, has the trace of the run that is reported.
abbrev pub IsRecorded : Sources → Job → (blank : Option (List ℕ)) → (made : List ℕ → Option (List ℕ)) → Writing → (status : ℕ) → Type 0
IsRecorded sources (Record file workers limit trace) blank made reports status = (behind : Option (List ℕ)) ×
    IsTraced (reading (sources.file (string_bytes file)) behind) (writing blank (made (string_bytes trace))) reports limit status
IsRecorded sources job blank made reports status = Unit {0}

-- Of a job that records, where only a part of the report could be written: the file has the trace of the run that was to be reported.
abbrev pub IsRecordedFirst : Sources → Job → (blank : Option (List ℕ)) → (made : List ℕ → Option (List ℕ)) → Writing → Type 0
IsRecordedFirst sources (Record file workers limit trace) blank made reports = (behind : Option (List ℕ)) ×
    IsReportCut (reading (sources.file (string_bytes file)) behind) (writing blank (made (string_bytes trace))) reports limit
IsRecordedFirst sources job blank made reports = Unit {0}

-- The file of the job's trace can't be created.
abbrev pub BarsTrace : (List ℕ → Type 0) → Job → Type 0
BarsTrace bars (Record file workers limit trace) = bars (string_bytes trace)
BarsTrace bars job = ⊥

-- One of the job's files can't be opened. Of several traces that is the first: a fault in an earlier one is told before the next is opened.
abbrev pub LacksFile : (List ℕ → Type 0) → Job → Type 0
LacksFile lacks (Judge (Some file) limit) = lacks_named lacks (string_bytes file)
LacksFile lacks (Elide file limit) = lacks_named lacks (string_bytes file)
LacksFile lacks (Run file workers limit) = lacks_named lacks (string_bytes file)
LacksFile lacks (Trace file workers limit) = lacks_named lacks (string_bytes file)
LacksFile lacks (Record file workers limit trace) = lacks (string_bytes file)
LacksFile lacks (Explain file workers is_serial limit color format is_all) = lacks (string_bytes file)
LacksFile lacks (ExplainTraces files color format is_all) = lacks_first lacks (map string_bytes files.items)
LacksFile lacks (Replay file trace) =
    lacks_named lacks (string_bytes file) ⊎ lacks_replayed lacks (string_bytes file) (string_bytes trace)
LacksFile lacks (Draw file language) = lacks_named lacks (string_bytes file)
LacksFile lacks job = ⊥

-- How the job ends: it was done at a status, or has a fault with its cause, which is that of reading where a file of it can't be opened.
pub record EndsJob (sources : Sources) (lacks : List ℕ → Type 0) (job : Job) (wrote writes : Option (List ℕ)) (result : Result ℕ CliFault) : Type 0 where
  pub done : IfOk result (IsPerformed sources job wrote writes)
  pub fault : IfErr result (HasJobCause sources job wrote writes)
  pub lacking : LacksFile lacks job → IsErrOf result Read

-- the job starts no thread and waits for none
abbrev pub IsAlone : Job → Type 0
IsAlone (Run file workers limit) = ⊥
IsAlone (Trace file workers limit) = ⊥
IsAlone (Record file workers limit trace) = ⊥
IsAlone (Explain file workers is_serial limit color format is_all) = ⊥
IsAlone (ExplainInput workers is_serial limit color format is_all) = ⊥
IsAlone job = Unit {0}

-- the exit status of the process: that of the job, or that of the fault
abbrev pub status_of_answer : Result ℕ CliFault → ℕ
status_of_answer (Ok status) = status
status_of_answer (Err fault) = status_of_fault fault
