-- What is told of a program's text: of a run of the program, or of the text's fault.
use Rattle.std.specs.Prelude.{ℕ, zero, suc, ◌≡◌, ◌≤◌, ◌⊎◌, Bool, true, false, Option, List, ◌++◌, length, flat_map, reverse, codes, decimal}
use Rattle.std.specs.Io.KnownBytes.{Appends}
use Rattle.std.specs.Ordering.{nat_cmp}
use Rattle.std.specs.BTreeMap.{BTreeMap, get}
use Rattle.text_words.specs.declared.fault.Cause.{Cause}
use Rattle.text_words.specs.Declarations.{cells_of}
use Rattle.text_words.specs.Text.{lines}
use Rattle.text_words.specs.Values.{Contents as TraceContents}
use Rattle.trace_text.specs.Grammar.{TextMeans as TraceMeans}
use Rattle.trace_text.specs.Faults.{TextFaults as TraceFaults}
use Rattle.trace_notes.specs.declared.notes.Notes.{Notes}
use Rattle.trace_notes.specs.Notes.{AreNotes, kept_runs}
use Rattle.program_text.specs.Drafts.{Contents}
use Rattle.program_text.specs.Grammar.{TextMeans}
use Rattle.program_text.specs.Faults.{TextFaults}
use Rattle.model_histories.specs.declared.answer.Entry.{Entry}
use Rattle.model_races.specs.Memory.{IsMemory}
use Rattle.model_histories.specs.Extensions.{IsFinished, IsClean}
use Rattle.model_runs.specs.Runs.{IsRun, IsFinishedRun}
use Rattle.run_replay.specs.Wraps.{AreWraps}
use Rattle.locked_replay.specs.Laws.{SpeaksForAll}
use Rattle.law_traces.specs.CleanTraces.{SpeaksForOrders}
use Rattle.serde_json.specs.Data.{null}
use Rattle.source_quotes.specs.declared.meant.Meant.{Meant}
use Rattle.source_quotes.specs.declared.meant.Meant.TheVariants.{Program, Trace}
use Rattle.fault_lists.specs.declared.fault.Fault.{Fault}
use Rattle.race_records.specs.Values.{IsTextOf}
use Rattle.race_records.specs.declared.document.Outcome.{Outcome as Ending}
use Rattle.race_records.specs.declared.document.Outcome.TheVariants.{Clean as CleanEnding, Raced as RacedEnding, Unfinished as UnfinishedEnding}
use Rattle.race_records.specs.declared.form.RecordForm.{RecordForm}
use Rattle.race_records.specs.Forms.{in_form}
use Rattle.race_records.specs.Documents.{end_of_trace, RecordsEntries, RunParts, run_parts, RecordsRun}
use Rattle.race_records.specs.Unjudged.{RecordsText, illegal_told}
use Rattle.tool_commands.specs.Memories.{memory_told}
use Rattle.tool_commands.specs.declared.explain.Rendering.{Rendering}
use Rattle.tool_commands.specs.declared.explain.Rendering.TheVariants.{Text, Record}
use Rattle.fault_lists.specs.Messages.{TellsFaults}
use Rattle.program_warnings.specs.Messages.{TellsWarnings}
use Rattle.source_quotes.specs.Quotes.{counted}
use Rattle.race_explanations.specs.declared.extent.Extent.{Extent}
use Rattle.race_explanations.specs.Explained.{ProgramFile, program_file, IsExplanation, IsTraceExplanation, trace_setting}
use Rattle.race_explanations.specs.declared.illegal.Illegality.{Illegality}
use Rattle.race_explanations.specs.Illegal.{HasReason, illegal_text}
use Rattle.command_streams.specs.declared.fault.CliFault.{CliFault}
use Rattle.command_streams.specs.declared.fault.CliFault.TheVariants.{Read, Write, TooLong, Memory}
use Rattle.tool_commands.specs.declared.explain.End.{End}
use Rattle.tool_commands.specs.declared.explain.End.TheVariants.{Clean, Raced, Cut, CutRaced}
use Rattle.command_streams.specs.ElisionText.{memory_text}
use Rattle.command_streams.specs.Readings.{Reading, StopsReader}
use Rattle.tool_commands.specs.Programs.{shape_of_program}
use Rattle.tool_commands.specs.Runs.{IsRunFault}
use Rattle.command_streams.specs.Streams.{IsRead}
use Rattle.tool_commands.specs.Outcomes.{refusal_status}
use Rattle.model_histories.specs.States.{GateState}
use Rattle.tool_commands.specs.declared.ask.Stop.{Stop}
use Rattle.tool_commands.specs.Replays.{AnswersAll, StopsAt, StopsGate}
use Rattle.tool_commands.specs.Sorts.{is_program_text}
use Rattle.tool_commands.specs.Digested.{IsDigested}
use Rattle.tool_commands.specs.declared.explain_trace.Judged.{Judged}
use Rattle.tool_commands.specs.declared.explain_trace.Judged.TheVariants.{Whole, Stopped}
use Rattle.race_pairs.specs.Digests.{most_of}
use Rattle.race_explanations.specs.Extents.{most_pairs}

-- how it is told: whether words are painted, in which form, how much of races, and by which name the text's file is called
pub record Manner : Type 0 where
  pub is_painted : Bool
  pub rendering : Rendering
  pub extent : Extent
  pub file : List ℕ

-- ---- texts

abbrev pub clean_words : List ℕ
clean_words = codes "clean for every schedule: no run of this program has a race, and each leaves this memory\n"

-- what is told where nothing was refused: that no schedule has a race, and the memory that each leaves
abbrev pub clean_text : Contents → List ℕ → List ℕ
clean_text program memory = clean_words ++ memory_text program.known.mems memory

abbrev pub cut_words : List ℕ
cut_words = codes "this is no whole run: the limit ended it after "

abbrev pub cut_behind : List ℕ
cut_behind = codes " requests, and there may be more to tell\n"

-- what is told behind the races of a run that the limit ended
abbrev pub cut_text : ℕ → List ℕ
cut_text limit = (cut_words ++ decimal limit) ++ cut_behind

-- ---- in each form

-- the index that a run wraps first on each line
abbrev pub Wrapping : Type 0
Wrapping = ℕ → Option ℕ

-- a program and the text that means it, told by the name of its file
abbrev pub file_of : Manner → (text : List ℕ) → Contents → ProgramFile
file_of manner text program = program_file manner.file (lines text) program

-- It is told to a person in this way, or as a record in that way.
abbrev pub IsToldBy : Rendering → (as_text : Type 0) → (as_record : RecordForm → Type 0) → Type 0
IsToldBy Text as_text as_record = as_text
IsToldBy (Record form) as_text as_record = as_record form

-- a run in which nothing was refused, and which left this memory
abbrev pub clean_run : ProgramFile → Wrapping → List Entry → (memory : List ℕ) → RunParts
clean_run file wraps entries memory = run_parts entries wraps CleanEnding (memory_told file.program.known.mems memory)

-- where nothing was refused in a run that left this memory and wraps these indexes
abbrev pub TellsClean : Manner → ProgramFile → Wrapping → List Entry → (memory told : List ℕ) → Type 0
TellsClean manner file wraps entries memory told =
    IsToldBy manner.rendering (told ≡ clean_text file.program memory)
    (λ form. RecordsRun form manner.extent file (clean_run file wraps entries memory) told)

-- where something was refused
abbrev pub TellsRaces : Manner → ProgramFile → Wrapping → List Entry → (told : List ℕ) → Type 0
TellsRaces manner file wraps entries told =
    IsToldBy manner.rendering (IsExplanation manner.is_painted manner.extent file entries told)
    (λ form. RecordsRun form manner.extent file (run_parts entries wraps RacedEnding null) told)

-- to a person where the limit ended the run: the races until then, and that it is no whole run
abbrev pub ExplainsCut : Manner → ProgramFile → List Entry → (told : List ℕ) → Type 0
ExplainsCut manner file entries told =
    (explanation : List ℕ) × (_ : IsExplanation manner.is_painted manner.extent file entries explanation) ×
    (told ≡ explanation ++ cut_text (length entries))

-- where the limit ended the run
abbrev pub TellsCut : Manner → ProgramFile → Wrapping → List Entry → (told : List ℕ) → Type 0
TellsCut manner file wraps entries told =
    IsToldBy manner.rendering (ExplainsCut manner file entries told)
    (λ form. RecordsRun form manner.extent file (run_parts entries wraps UnfinishedEnding null) told)

-- the faults of the text that can be told apart, the first of which is this one
abbrev pub TellsFaulty : Manner → Meant → (text : List ℕ) → Fault → (told : List ℕ) → Type 0
TellsFaulty manner meant text fault told =
    IsToldBy manner.rendering (TellsFaults manner.is_painted manner.file meant text fault told)
    (λ form. RecordsText form manner.file meant text fault told)

-- why the request with this number of a trace is illegal
abbrev pub TellsIllegal : Manner → (text : List ℕ) → TraceContents → ℕ → Illegality → (told : List ℕ) → Type 0
TellsIllegal manner text trace number why told =
    IsToldBy manner.rendering (told ≡ illegal_text manner.is_painted manner.file (lines text) trace.lines number why)
    (λ form. IsTextOf (in_form form (illegal_told manner.file (lines text) trace.lines number why)) told)

-- ---- a run

-- The warnings of the program are told, and behind them what is told of a run.
pub record WarnsBefore (is_painted : Bool) (file : ProgramFile) (wraps : Wrapping) (run told : List ℕ) : Type 0 where
  pub warnings : List ℕ
  pub warns : TellsWarnings is_painted file.name file.lines file.program wraps warnings
  pub told_is : told ≡ warnings ++ run

-- To a person the warnings are told before the run; a record of the run has them.
abbrev pub IsBehindWarnings : Manner → ProgramFile → Wrapping → (run told : List ℕ) → Type 0
IsBehindWarnings manner file wraps run told =
    IsToldBy manner.rendering (WarnsBefore manner.is_painted file wraps run told) (λ form. told ≡ run)

-- The indexes are those that the run wraps, and the run is told, and the warnings of the program.
pub record TellsWarned (manner : Manner) (file : ProgramFile) (entries : List Entry) (TellsRun : Wrapping → List ℕ → Type 0) (told : List ℕ)
    : Type 0 where
  pub wraps : BTreeMap ℕ ℕ
  pub are_wraps : AreWraps file.program.functions (shape_of_program file.program) (reverse entries) wraps
  pub run : List ℕ
  pub tells_run : TellsRun (get nat_cmp wraps) run
  pub behind : IsBehindWarnings manner file (get nat_cmp wraps) run told

-- A finished run in which nothing was refused is told, which speaks for every schedule.
pub record IsCleanTold (manner : Manner) (text : List ℕ) (program : Contents) (limit : ℕ) (told : List ℕ) : Type 0 where
  pub entries : List Entry
  pub memory : List ℕ
  pub run : IsFinishedRun program.functions (shape_of_program program) (reverse entries)
  pub within : length entries ≤ limit
  pub left : IsMemory (cells_of program.known.mems) (reverse entries) memory
  pub clean : IsClean (reverse entries)
  pub speaks : SpeaksForAll program.functions (shape_of_program program) (reverse entries)
  pub tells : TellsWarned manner (file_of manner text program) entries
      (λ wraps run. TellsClean manner (file_of manner text program) wraps entries memory run) told

-- The races of a finished run are told.
pub record IsRacedTold (manner : Manner) (text : List ℕ) (program : Contents) (limit : ℕ) (told : List ℕ) : Type 0 where
  pub entries : List Entry
  pub run : IsFinishedRun program.functions (shape_of_program program) (reverse entries)
  pub within : length entries ≤ limit
  pub raced : IsClean (reverse entries) → ⊥
  pub explains : TellsWarned manner (file_of manner text program) entries
      (λ wraps run. TellsRaces manner (file_of manner text program) wraps entries run) told

-- The races are told of a run that has just as many entries as the limit and has not come to its end, and that it is no whole run.
pub record IsCutTold (manner : Manner) (text : List ℕ) (program : Contents) (limit : ℕ) (told : List ℕ) (refused : ℕ) : Type 0 where
  pub entries : List Entry
  pub run : IsRun program.functions (shape_of_program program) (reverse entries)
  pub full : length entries ≡ limit
  pub unfinished : IsFinished (reverse entries) → ⊥
  pub explains : TellsWarned manner (file_of manner text program) entries
      (λ wraps run. TellsCut manner (file_of manner text program) wraps entries run) told
  pub refused_is : refused ≡ refusal_status entries

-- A run with this end is told.
abbrev pub TellsEnd : Manner → (text : List ℕ) → Contents → (limit : ℕ) → (told : List ℕ) → End → Type 0
TellsEnd manner text program limit told Clean = IsCleanTold manner text program limit told
TellsEnd manner text program limit told Raced = IsRacedTold manner text program limit told
TellsEnd manner text program limit told Cut = IsCutTold manner text program limit told 0
TellsEnd manner text program limit told CutRaced = IsCutTold manner text program limit told 1

abbrev pub status_of_end : End → ℕ
status_of_end Clean = 0
status_of_end Raced = 1
status_of_end Cut = 4
status_of_end CutRaced = 1

-- The warnings of the program are told that the text means, and a run of it.
pub record IsRunTold (manner : Manner) (text : List ℕ) (limit : ℕ) (told : List ℕ) (status : ℕ) : Type 0 where
  pub program : Contents
  pub end : End
  pub means : TextMeans text program
  pub tells : TellsEnd manner text program limit told end
  pub status_is : status ≡ status_of_end end

-- The faults of the text that can be told apart are told, the first of which is its fault.
pub record IsFaultTold (manner : Manner) (text : List ℕ) (told : List ℕ) (status : ℕ) : Type 0 where
  pub number : ℕ
  pub why : Cause
  pub faults : TextFaults text number why
  pub tells : TellsFaulty manner Program text (record { line = number; why = why }) told
  pub status_is : status ≡ 2

-- ---- a trace

abbrev pub clean_trace_words : List ℕ
clean_trace_words = codes "clean: no two of the accesses of this trace race, in whatever order its strands run\n"

abbrev pub recorded_line : List ℕ → List ℕ
recorded_line run = codes "recorded: " ++ run ++ codes "\n"

-- what was recorded, by the notes
abbrev pub recorded_text : Notes → List ℕ
recorded_text notes = flat_map recorded_line (kept_runs notes)

-- how a trace that was judged came out, by its status
abbrev pub ending_of : (status : ℕ) → Ending
ending_of zero = CleanEnding
ending_of (suc status) = RacedEnding

-- how many requests were judged
abbrev pub judged_text : ℕ → List ℕ
judged_text count = codes "judged: " ++ counted count (codes "request") ++ codes "\n"

-- Nothing was refused, or it is told what was.
abbrev pub TellsEntries : Manner → Notes → TraceContents → List Entry → (told : List ℕ) → Type 0
TellsEntries manner notes trace entries told =
    (IsClean (reverse entries) × (told ≡ clean_trace_words ++ judged_text (length entries))) ⊎
    ((IsClean (reverse entries) → ⊥) × IsTraceExplanation manner.is_painted manner.extent notes trace.known entries told)

-- The text tells in the form of the trace, and what was recorded.
abbrev pub RecordsTrace : RecordForm → Extent → Notes → TraceContents → List Entry → (told : List ℕ) → Type 0
RecordsTrace form extent notes trace entries told =
    RecordsEntries form extent (trace_setting false notes trace.known entries) entries
    (end_of_trace (ending_of (refusal_status entries)) notes) told

-- the trace to a person, and what was recorded
abbrev pub ExplainsTrace : Manner → Notes → TraceContents → List Entry → (told : List ℕ) → Type 0
ExplainsTrace manner notes trace entries told =
    (verdict : List ℕ) × (_ : TellsEntries manner notes trace entries verdict) × (told ≡ verdict ++ recorded_text notes)

-- The trace is told, and what was recorded.
abbrev pub TellsTrace : Manner → Notes → TraceContents → List Entry → (told : List ℕ) → Type 0
TellsTrace manner notes trace entries told =
    IsToldBy manner.rendering (ExplainsTrace manner notes trace entries told)
    (λ form. RecordsTrace form manner.extent notes trace entries told)

-- A gate answered each request of the trace that the text means, and its entries are told by the notes of that very text. Where nothing was
-- refused, that speaks for each order in which the strands can come.
pub record IsTraceTold (manner : Manner) (text : List ℕ) (told : List ℕ) (status : ℕ) : Type 0 where
  pub trace : TraceContents
  pub means : TraceMeans text trace
  pub gate : GateState
  pub answers : AnswersAll trace gate
  pub entries : List Entry
  pub history : reverse entries ≡ gate.history
  pub speaks : IsClean gate.history → SpeaksForOrders gate.shape gate.history
  pub notes : Notes
  pub are_notes : AreNotes (lines text) notes
  pub tells : TellsTrace manner notes trace entries told
  pub status_is : status ≡ refusal_status entries

-- The faults of the text as a trace that can be told apart are told, the first of which is its fault.
pub record IsTraceFaultTold (manner : Manner) (text : List ℕ) (told : List ℕ) (status : ℕ) : Type 0 where
  pub number : ℕ
  pub why : Cause
  pub faults : TraceFaults text number why
  pub tells : TellsFaulty manner Trace text (record { line = number; why = why }) told
  pub status_is : status ≡ 2

-- The text means a trace, and of its first request that a gate does not answer it is told why it is illegal in the history of that gate.
pub record IsIllegalTold (manner : Manner) (text : List ℕ) (told : List ℕ) (status : ℕ) : Type 0 where
  pub trace : TraceContents
  pub means : TraceMeans text trace
  pub gate : GateState
  pub stop : Stop
  pub stops : StopsAt trace gate stop
  pub why : Illegality
  pub reason : HasReason gate stop.request why
  pub tells : TellsIllegal manner text trace stop.number why told
  pub status_is : status ≡ 2

-- What comes of the requests of the trace that the text means: the digest of the entries, for what is told in this form, or what is told of
-- the first illegal one.
abbrev pub IsJudgedSo : Manner → (text : List ℕ) → TraceContents → Judged → Type 0
IsJudgedSo manner text trace (Whole digest) = IsDigested trace digest × (most_of digest ≡ most_pairs manner.extent)
IsJudgedSo manner text trace (Stopped told) = IsIllegalTold manner text told.items 2

-- It is told why no trace is judged to its end: by a fault of the text, or by an illegal request.
abbrev pub IsUnjudgedTold : Manner → (text : List ℕ) → (told : List ℕ) → (status : ℕ) → Type 0
IsUnjudgedTold manner text told status = IsTraceFaultTold manner text told status ⊎ IsIllegalTold manner text told status

-- What a text means is told, or why it means nothing: as a program, or as a trace.
abbrev pub ExplainsAs : Bool → Manner → (text : List ℕ) → (limit : ℕ) → (told : List ℕ) → (status : ℕ) → Type 0
ExplainsAs true manner text limit told status = IsRunTold manner text limit told status ⊎ IsFaultTold manner text told status
ExplainsAs false manner text limit told status = IsTraceTold manner text told status ⊎ IsUnjudgedTold manner text told status

abbrev pub Explains : Manner → (text : List ℕ) → (limit : ℕ) → (told : List ℕ) → (status : ℕ) → Type 0
Explains manner text limit told status = ExplainsAs (is_program_text text) manner text limit told status

-- Why nothing is told of the program that a text means.
pub record IsUntold (text : List ℕ) (limit : ℕ) (fault : CliFault) : Type 0 where
  pub program : Contents
  pub means : TextMeans text program
  pub stops : IsRunFault program limit fault

-- Why nothing is told of the trace that a text means: a gate does not answer a request of it.
pub record IsUntoldTrace (text : List ℕ) (fault : CliFault) : Type 0 where
  pub trace : TraceContents
  pub means : TraceMeans text trace
  pub stops : StopsGate trace fault

abbrev pub StopsTellingAs : Bool → (text : List ℕ) → (limit : ℕ) → CliFault → Type 0
StopsTellingAs true text limit fault = IsUntold text limit fault
StopsTellingAs false text limit fault = IsUntoldTrace text fault

-- Why nothing is told of a text: each fault has its cause.
abbrev pub StopsTelling : (text : List ℕ) → (limit : ℕ) → CliFault → Type 0
StopsTelling text limit Memory = Unit {0}
StopsTelling text limit fault = StopsTellingAs (is_program_text text) text limit fault

-- ---- reading and writing

-- A text was read, and what is told of it was written.
pub record IsExplained (manner : Manner) (reader : Reading) (wrote writes : Option (List ℕ)) (limit status : ℕ) : Type 0 where
  pub text : List ℕ
  pub told : List ℕ
  pub read : IsRead reader.before reader.behind text
  pub explains : Explains manner text limit told status
  pub written : Appends wrote writes told

-- A text was read, and only a part of what is told of it could be written.
pub record IsExplanationCut (manner : Manner) (reader : Reading) (wrote writes : Option (List ℕ)) (limit : ℕ) : Type 0 where
  pub text : List ℕ
  pub told : List ℕ
  pub status : ℕ
  pub part : List ℕ
  pub rest : List ℕ
  pub read : IsRead reader.before reader.behind text
  pub explains : Explains manner text limit told status
  pub written : Appends wrote writes part
  pub prefix : part ++ rest ≡ told

-- A text was read, and nothing is told of it.
pub record IsUntoldText (reader : Reading) (limit : ℕ) (fault : CliFault) : Type 0 where
  pub text : List ℕ
  pub read : IsRead reader.before reader.behind text
  pub untold : StopsTelling text limit fault

-- Why nothing is told, or not all: each fault has its cause.
abbrev pub HasExplanationCause : Manner → Reading → (wrote writes : Option (List ℕ)) → (limit : ℕ) → CliFault → Type 0
HasExplanationCause manner reader wrote writes limit Read = Unit {0}
HasExplanationCause manner reader wrote writes limit Write = IsExplanationCut manner reader wrote writes limit
HasExplanationCause manner reader wrote writes limit TooLong = StopsReader reader TooLong
HasExplanationCause manner reader wrote writes limit Memory = Unit {0}
HasExplanationCause manner reader wrote writes limit fault = IsUntoldText reader limit fault
