-- What is told of several traces together.
use Rattle.std.specs.Prelude.{ℕ, ◌≡◌, ◌==◌, ◌&&◌, Option, Some, None, List, [], ◌∷◌, ◌++◌, flat_map, map, reverse, cond, if◌then◌else◌, false}
use Rattle.std.specs.List.{list_any}
use Rattle.std.specs.Str.{bytes_eq}
use Rattle.std.specs.String.{string_bytes}
use Rattle.std.specs.Global.{Vec}
use Rattle.text_words.specs.Text.{lines}
use Rattle.text_words.specs.Values.{Contents as TraceContents}
use Rattle.trace_text.specs.Grammar.{TextMeans as TraceMeans}
use Rattle.trace_notes.specs.declared.notes.Notes.{Notes}
use Rattle.trace_notes.specs.Notes.{AreNotes, kept_runs}
use Rattle.model_histories.specs.declared.answer.Entry.{Entry}
use Rattle.model_histories.specs.Extensions.{IsClean}
use Rattle.model_histories.specs.States.{GateState}
use Rattle.law_traces.specs.CleanTraces.{SpeaksForOrders}
use Rattle.race_explanations.specs.declared.extent.Extent.{Extent}
use Rattle.race_explanations.specs.Explained.{trace_setting}
use Rattle.race_explanations.specs.Findings.{Found, found_of, nothing_found, AddsTrace, found_text}
use Rattle.race_records.specs.Values.{IsTextOf}
use Rattle.race_records.specs.Forms.{in_form}
use Rattle.race_records.specs.Several.{Recorded, nothing_recorded, recorded_told, AddsTrace as RecordsMore}
use Rattle.race_records.specs.SeveralViews.{recorded_of}
use Rattle.tool_commands.specs.declared.explain.Rendering.{Rendering}
use Rattle.tool_commands.specs.declared.explain.Rendering.TheVariants.{Text, Record}
use Rattle.command_streams.specs.declared.fault.CliFault.{CliFault}
use Rattle.command_streams.specs.declared.fault.CliFault.TheVariants.{Read, TooLong, Memory}
use Rattle.command_streams.specs.Readings.{Reading, StopsReader}
use Rattle.command_streams.specs.Streams.{IsRead}
use Rattle.tool_commands.specs.declared.explain_traces.Traces.{Traces}
use Rattle.tool_commands.specs.Replays.{AnswersAll}
use Rattle.tool_commands.specs.Explanations.{Manner, recorded_line, IsToldBy, IsUnjudgedTold, IsUntoldTrace}

-- ---- what is kept of the traces

-- what is found in them, for a text and for a record, and what was recorded
pub record Together : Type 0 where
  pub found : Found
  pub records : Recorded
  pub runs : List (List ℕ)

abbrev pub together_of : Traces → Together
together_of traces = record { found = found_of traces.findings; records = recorded_of traces.records; runs = map string_bytes traces.runs.items }

abbrev pub none_together : Together
none_together = record { found = nothing_found; records = nothing_recorded; runs = [] }

-- a note of a run, which is kept once
abbrev pub with_run : List (List ℕ) → List ℕ → List (List ℕ)
with_run runs run = cond (list_any (bytes_eq run) runs) runs (runs ++ run ∷ [])

abbrev pub with_runs : List (List ℕ) → List (List ℕ) → List (List ℕ)
with_runs runs [] = runs
with_runs runs (run ∷ more) = with_runs (with_run runs run) more

-- what a person is told of them
abbrev pub together_text : Extent → Together → List ℕ
together_text extent together = found_text extent together.found ++ flat_map recorded_line together.runs

-- 1 where something was refused
abbrev pub together_status : Together → ℕ
together_status together = if together.found.refusals == 0 && together.records.refusals == 0 then 0 else 1

-- what is told of them in each form
abbrev pub TellsTogether : Rendering → Extent → Together → (told : List ℕ) → Type 0
TellsTogether Text extent together told = told ≡ together_text extent together
TellsTogether (Record form) extent together told = IsTextOf (in_form form (recorded_told extent together.records together.runs)) told

-- ---- one more

-- What is found in a trace is added to what is told in this form, and nothing to the other.
abbrev pub AddsFound : Manner → Notes → TraceContents → List Entry → (old new : Together) → Type 0
AddsFound manner notes trace entries old new =
    IsToldBy manner.rendering
    (AddsTrace manner.extent manner.file (trace_setting manner.is_painted notes trace.known entries) entries old.found new.found ×
    (new.records ≡ old.records))
    (λ form. RecordsMore manner.extent manner.file (trace_setting false notes trace.known entries) entries old.records new.records ×
    (new.found ≡ old.found))

-- The text means a trace, a gate answered each request of it, and what is found in it is added, by the notes of that very text. Where
-- nothing was refused, that speaks for each order in which the strands can come.
pub record AddsText (manner : Manner) (text : List ℕ) (old new : Together) : Type 0 where
  pub trace : TraceContents
  pub means : TraceMeans text trace
  pub gate : GateState
  pub answers : AnswersAll trace gate
  pub entries : List Entry
  pub history : reverse entries ≡ gate.history
  pub speaks : IsClean gate.history → SpeaksForOrders gate.shape gate.history
  pub notes : Notes
  pub are_notes : AreNotes (lines text) notes
  pub adds : AddsFound manner notes trace entries old new
  pub runs_is : new.runs ≡ with_runs old.runs (kept_runs notes)

-- The trace that a text means is added, or it is told why it is not judged to its end: the faults of the text, or an illegal request.
abbrev pub TakesText : Manner → (text : List ℕ) → (old new : Together) → Option (Vec ℕ) → Type 0
TakesText manner text old new (Some told) = IsUnjudgedTold manner text told.items 2
TakesText manner text old new None = AddsText manner text old new

-- A text was read, and is taken.
pub record TakesReading (manner : Manner) (reader : Reading) (old new : Together) (told : Option (Vec ℕ)) : Type 0 where
  pub text : List ℕ
  pub read : IsRead reader.before reader.behind text
  pub takes : TakesText manner text old new told

-- A text was read, and a gate does not answer a request of it.
pub record IsUntoldReading (reader : Reading) (fault : CliFault) : Type 0 where
  pub text : List ℕ
  pub read : IsRead reader.before reader.behind text
  pub untold : IsUntoldTrace text fault

-- Why what a reader gives is not taken: each fault has its cause.
abbrev pub StopsTaking : Reading → CliFault → Type 0
StopsTaking reader Read = Unit {0}
StopsTaking reader Memory = Unit {0}
StopsTaking reader TooLong = StopsReader reader TooLong
StopsTaking reader fault = IsUntoldReading reader fault
