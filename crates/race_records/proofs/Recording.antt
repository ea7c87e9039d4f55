-- What is told of the entries of a run or a trace.
use Rattle.std.proofs.Common.{◌≡◌, ℕ, Bool, suc, false, ◌+◌, ◌<◌, ◌≤◌, List, [], ◌∷◌, ◌++◌, Option, length, take, drop, map, get_or, refl, sym, subst, ap, ◌∙◌, append_assoc, append-nil, arith}
use Rattle.std.proofs.lemmas.List.{drop_more, map-append}
use Rattle.std.proofs.lemmas.Option.{slice_get_past, slice_get_read}
use Rattle.serde_json.specs.Data.{Data}
use Rattle.serde_json.specs.View.{view}
use Rattle.serde_json.specs.declared.value.Value.{Value}
use Rattle.model_histories.specs.declared.answer.Entry.{Entry}
use Rattle.race_pairs.specs.declared.race.Pair.{Pair}
use Rattle.race_pairs.specs.declared.race.Race.{Race}
use Rattle.race_pairs.specs.declared.groups.Group.{Group}
use Rattle.program_warnings.specs.declared.warning.Warning.{Warning}
use Rattle.program_warnings.specs.Messages.{AreWarnings}
use Rattle.race_explanations.specs.declared.case.Case.{Case}
use Rattle.race_explanations.specs.declared.extent.Extent.{Extent}
use Rattle.race_explanations.specs.Extents.{most_pairs}
use Rattle.race_explanations.specs.Cases.{AreCases}
use Rattle.race_explanations.specs.Settings.{Setting}
use Rattle.race_explanations.specs.Explained.{ProgramFile, program_setting}
use Rattle.race_pairs.specs.Pairs.{ArePairs}
use Rattle.race_records.specs.Values.{IsTextOf}
use Rattle.race_records.specs.declared.form.RecordForm.{RecordForm}
use Rattle.race_records.specs.Forms.{in_form}
use Rattle.race_records.specs.Warned.{Warned, warned_of}
use Rattle.race_records.specs.Races.{case_told, told_of, told_at, group_told, groups_told, TellsRaces}
use Rattle.race_records.specs.Documents.{SummaryParts, EndParts, RunParts, document_told, summary_of, RecordsEntries, RecordsRun}

-- the case at a place is told behind others
pub case_here : (setting : Setting) (cases : List Case) (group : ℕ) (is_sure : Bool) (place : ℕ) (case : Case) (value : Value) (old new : List Value) →
    place < length cases → case ≡ get_or cases place case → view value ≡ case_told setting group is_sure case → new ≡ old ++ value ∷ [] →
    map view new ≡ map view old ++ told_at setting cases group is_sure place
case_here setting cases group is_sure place case value old new below at told is =
    ap (map view) is ∙ map-append view old (value ∷ []) ∙ ap (λ (one : Data). map view old ++ one ∷ []) told ∙
    ap (λ (found : Option Case). map view old ++ told_of setting group is_sure found)
    (sym (slice_get_read cases (length cases) place case refl below at))

-- there is none
pub case_past : (setting : Setting) (cases : List Case) (group : ℕ) (is_sure : Bool) (place : ℕ) (old : List Value) → length cases ≤ place →
    map view old ≡ map view old ++ told_at setting cases group is_sure place
case_past setting cases group is_sure place old beyond =
    sym (append-nil (map view old)) ∙
    ap (λ (found : Option Case). map view old ++ told_of setting group is_sure found) (sym (slice_get_past cases place beyond))

-- Behind what is told of the groups before one, it and those behind it are told.
pub group_more : (setting : Setting) (cases : List Case) (groups : List Group) (index : ℕ) (d : Group) (told new whole : List Data) → index < length groups →
    told ++ groups_told setting cases (suc index) (drop index groups) ≡ whole →
    new ≡ told ++ group_told setting cases (suc index) (get_or groups index d) →
    new ++ groups_told setting cases (suc (index + 1)) (drop (index + 1) groups) ≡ whole
group_more setting cases groups index d told new whole below before is =
    let one = group_told setting cases (suc index) (get_or groups index d) in
    let behind = groups_told setting cases (suc (suc index)) (drop (index + 1) groups) in
    let step : groups_told setting cases (suc index) (drop index groups) ≡ one ++ behind =
    ap (groups_told setting cases (suc index)) (drop_more groups index d below) in
    ap (λ (n : ℕ). new ++ groups_told setting cases (suc n) (drop (index + 1) groups)) (omega arith) ∙ ap (λ (t : List Data). t ++ behind) is ∙ append_assoc told one behind ∙ ap (λ (t : List Data). told ++ t) (sym step) ∙ before

-- what is told of the entries
pub entries_recorded : (form : RecordForm) (extent : Extent) (setting : Setting) (entries : List Entry) (end : EndParts)
    (pairs : List Pair) (races : List Race) (values untold : List Data) (summary : SummaryParts) (value : Data)
    (text : List ℕ) → ArePairs entries pairs → map (λ (race : Race). race.pair) races ≡ take (most_pairs extent) pairs →
    TellsRaces setting entries races values → untold ≡ [] → summary ≡ summary_of end.outcome end.traces entries (length pairs) →
    value ≡ document_told summary end.memory values end.recorded untold end.warned → IsTextOf (in_form form value) text →
    RecordsEntries form extent setting entries end text
entries_recorded form extent setting entries end pairs races values untold summary value text are first tells empty summary_is told is_text = record {
  pairs = pairs;
  are_pairs = are;
  races = races;
  are_kept = first;
  cases = tells.cases;
  are_cases = subst (λ (some : List Pair). AreCases entries some tells.cases) first tells.are_cases;
  groups = tells.groups;
  are_groups = tells.are_groups;
  is_text = subst (λ (v : Data). IsTextOf (in_form form v) text)
      (told ∙ ap (λ (u : List Data). document_told summary end.memory values end.recorded u end.warned) empty ∙
      ap (λ (s : SummaryParts). document_told s end.memory values end.recorded [] end.warned) summary_is ∙
      ap (λ (v : List Data). document_told (summary_of end.outcome end.traces entries (length pairs)) end.memory v end.recorded [] end.warned) tells.values_are) is_text;
}

-- how a run came out, with these notes and warnings
abbrev ended : RunParts → (recorded : List (List ℕ)) → Warned → EndParts
ended run recorded warned = record { outcome = run.outcome; traces = 0; memory = run.memory; recorded = recorded; warned = warned }

-- what is told of a run, with the warnings of its program
pub run_recorded : (form : RecordForm) (extent : Extent) (file : ProgramFile) (run : RunParts) (warnings : List Warning) (setting : Setting) (warned : Warned)
    (runs : List (List ℕ)) (text : List ℕ) → AreWarnings file.program run.wraps warnings →
    setting ≡ program_setting false file run.entries → warned ≡ warned_of file.name file.lines file.program warnings → runs ≡ [] →
    RecordsEntries form extent setting run.entries (ended run runs warned) text → RecordsRun form extent file run text
run_recorded form extent file run warnings setting warned runs text are setting_is warned_is empty records = record {
  warnings = warnings;
  are_warnings = are;
  records = subst (λ (w : Warned). RecordsEntries form extent (program_setting false file run.entries) run.entries (ended run [] w) text) warned_is
      (subst (λ (r : List (List ℕ)). RecordsEntries form extent (program_setting false file run.entries) run.entries (ended run r warned) text) empty
      (subst (λ (s : Setting). RecordsEntries form extent s run.entries (ended run runs warned) text) setting_is records));
}
