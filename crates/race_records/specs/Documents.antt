-- What is told of a run or of traces, as one value.
use Rattle.std.specs.Prelude.{ℕ, ◌≡◌, false, List, [], codes, length, map, take, Option, Some}
use Rattle.serde_json.specs.Data.{Data, null, string, object, member, no_members}
use Rattle.model_histories.specs.declared.answer.Entry.{Entry}
use Rattle.trace_notes.specs.declared.notes.Notes.{Notes}
use Rattle.trace_notes.specs.Notes.{kept_runs}
use Rattle.race_pairs.specs.Refusals.{refusals_among}
use Rattle.race_pairs.specs.Pairs.{ArePairs}
use Rattle.race_pairs.specs.Groups.{AreGroups}
use Rattle.race_pairs.specs.declared.race.Pair.{Pair}
use Rattle.race_pairs.specs.declared.race.Race.{Race}
use Rattle.race_pairs.specs.declared.groups.Group.{Group}
use Rattle.program_warnings.specs.declared.warning.Warning.{Warning}
use Rattle.program_warnings.specs.Messages.{AreWarnings}
use Rattle.race_explanations.specs.Settings.{Setting}
use Rattle.race_explanations.specs.Explained.{ProgramFile, program_setting}
use Rattle.race_explanations.specs.declared.case.Case.{Case}
use Rattle.race_explanations.specs.declared.extent.Extent.{Extent}
use Rattle.race_explanations.specs.Extents.{most_pairs}
use Rattle.race_explanations.specs.Cases.{AreCases}
use Rattle.race_records.specs.declared.document.Outcome.{Outcome}
use Rattle.race_records.specs.declared.document.Outcome.TheVariants.{Clean, Raced, Unfinished}
use Rattle.race_records.specs.Values.{text_told, count_told, list_told, number_or_null, IsTextOf}
use Rattle.race_records.specs.declared.form.RecordForm.{RecordForm}
use Rattle.race_records.specs.Forms.{in_form}
use Rattle.race_records.specs.Races.{groups_told}
use Rattle.race_records.specs.Warned.{Warned, none_warned, warned_of}

abbrev pub outcome_word : Outcome → List ℕ
outcome_word Clean = codes "clean"
outcome_word Raced = codes "raced"
outcome_word Unfinished = codes "unfinished"

-- how a run or traces came out; the number of pairs is not known where a trace has more than are kept
pub record SummaryParts : Type 0 where
  pub outcome : Outcome
  pub pairs : Option ℕ
  pub refusals : ℕ
  pub requests : ℕ
  pub traces : ℕ

-- the races with the summary, the final memory, what was recorded, the files of which not all pairs are told, and the warnings
abbrev pub document_told : SummaryParts → (memory : Data) → (races : List Data) → (recorded : List (List ℕ)) → (untold : List Data) → Warned → Data
document_told summary memory races recorded untold warned =
    object (member (codes "memory") memory
    (member (codes "outcome") (string (outcome_word summary.outcome))
    (member (codes "pairs") (number_or_null summary.pairs)
    (member (codes "races") (list_told (λ race. race) races)
    (member (codes "recorded") (list_told text_told recorded)
    (member (codes "refusals") (count_told summary.refusals)
    (member (codes "requests") (count_told summary.requests)
    (member (codes "traces") (count_told summary.traces)
    (member (codes "untold") (list_told (λ file. file) untold)
    (member (codes "version") (count_told 1)
    (member (codes "warned") (count_told warned.count)
    (member (codes "warnings") warned.warnings no_members))))))))))))

abbrev pub summary_of : (outcome : Outcome) → (traces : ℕ) → List Entry → (pairs : ℕ) → SummaryParts
summary_of outcome traces entries pairs = record {
  outcome = outcome;
  pairs = Some pairs;
  refusals = refusals_among entries;
  requests = length entries;
  traces = traces;
}

-- what is told of entries besides their races: how they came out, of how many traces they are, the final memory where it is known, what was
-- recorded, and the warnings
pub record EndParts : Type 0 where
  pub outcome : Outcome
  pub traces : ℕ
  pub memory : Data
  pub recorded : List (List ℕ)
  pub warned : Warned

-- how a trace with these notes came out
abbrev pub end_of_trace : Outcome → Notes → EndParts
end_of_trace outcome notes = record { outcome = outcome; traces = 1; memory = null; recorded = kept_runs notes; warned = none_warned }

-- The text tells in the form of the entries, the oldest first, as the value says: of each of the first pairs of places that raced, in groups
-- of those that part at spawns on one line, how many pairs there are, and how many refusals there were.
pub record RecordsEntries (form : RecordForm) (extent : Extent) (setting : Setting) (entries : List Entry) (end : EndParts) (text : List ℕ)
    : Type 0 where
  pub pairs : List Pair
  pub are_pairs : ArePairs entries pairs
  pub races : List Race
  pub are_kept : map (λ race. race.pair) races ≡ take (most_pairs extent) pairs
  pub cases : List Case
  pub are_cases : AreCases entries (take (most_pairs extent) pairs) cases
  pub groups : List Group
  pub are_groups : AreGroups races groups
  pub is_text : IsTextOf (in_form form (document_told (summary_of end.outcome end.traces entries (length pairs)) end.memory
      (groups_told setting cases 1 groups) end.recorded [] end.warned)) text

-- a run of a program: its entries, the index that it wraps first on each line, how it came out, and its final memory where that is known
pub record RunParts : Type 0 where
  pub entries : List Entry
  pub wraps : ℕ → Option ℕ
  pub outcome : Outcome
  pub memory : Data

abbrev pub run_parts : List Entry → (wraps : ℕ → Option ℕ) → Outcome → (memory : Data) → RunParts
run_parts entries wraps outcome memory = record { entries = entries; wraps = wraps; outcome = outcome; memory = memory }

-- how a run of the program in a file came out, with these warnings
abbrev pub end_of_run : ProgramFile → RunParts → List Warning → EndParts
end_of_run file run warnings = record {
  outcome = run.outcome;
  traces = 0;
  memory = run.memory;
  recorded = [];
  warned = warned_of file.name file.lines file.program warnings;
}

-- The text tells so of the entries of a run of the program in a file, and the warnings of the program.
pub record RecordsRun (form : RecordForm) (extent : Extent) (file : ProgramFile) (run : RunParts) (text : List ℕ) : Type 0 where
  pub warnings : List Warning
  pub are_warnings : AreWarnings file.program run.wraps warnings
  pub records : RecordsEntries form extent (program_setting false file run.entries) run.entries (end_of_run file run warnings) text
