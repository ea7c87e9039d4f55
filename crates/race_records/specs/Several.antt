-- What is told of several traces together.
use Rattle.std.specs.Prelude.{ℕ, ◌≡◌, ◌-◌, nat_lt, suc, Bool, List, [], ◌∷◌, ◌++◌, codes, flat_map, length, map, take, Option, Some, None, slice_get, cond, if◌then◌else◌}
use Rattle.std.specs.Global.{Vec}
use Rattle.serde_json.specs.Data.{Data, null, object, member, no_members}
use Rattle.model_histories.specs.declared.answer.Entry.{Entry}
use Rattle.race_pairs.specs.Refusals.{refusals_among}
use Rattle.race_pairs.specs.Pairs.{ArePairs}
use Rattle.race_pairs.specs.Encounters.{IsEncounter}
use Rattle.race_pairs.specs.declared.race.Pair.{Pair}
use Rattle.race_pairs.specs.declared.encounter.Encounter.{Encounter}
use Rattle.race_explanations.specs.declared.finding.Finding.{Finding}
use Rattle.race_explanations.specs.declared.extent.Extent.{Extent}
use Rattle.race_explanations.specs.Extents.{most_pairs}
use Rattle.race_explanations.specs.Settings.{Setting}
use Rattle.race_explanations.specs.Findings.{added_up, with_finding, IsFinding}
use Rattle.race_explanations.specs.FoundGroups.{groups_of, are_sure}
use Rattle.race_records.specs.declared.document.Outcome.{Outcome}
use Rattle.race_records.specs.declared.document.Outcome.TheVariants.{Clean, Raced}
use Rattle.race_records.specs.Values.{text_told, count_told}
use Rattle.race_records.specs.Races.{RaceParts, parts_of, race_told}
use Rattle.race_records.specs.Warned.{none_warned}
use Rattle.race_records.specs.Documents.{SummaryParts, document_told}

-- ---- what is kept

-- The findings that are told to a person, and of each what is told of its first pair.
pub record Kept : Type 0 where
  pub findings : List Finding
  pub races : List RaceParts

-- a race more, where its finding is told as none before, and so stands behind all
abbrev pub with_race : (before after : List Finding) → List RaceParts → RaceParts → List RaceParts
with_race before after races race = cond (nat_lt (length before) (length after)) (races ++ race ∷ []) races

-- one finding more: joined to the first that is told alike, or behind all with its race
abbrev pub with_kept : Kept → Finding → RaceParts → Kept
with_kept kept finding race = record {
  findings = with_finding kept.findings finding;
  races = with_race kept.findings (with_finding kept.findings finding) kept.races race;
}

-- The race tells of the pair.
pub record IsRace (setting : Setting) (entries : List Entry) (pair : Pair) (race : RaceParts) : Type 0 where
  pub encounter : Encounter
  pub is_encounter : IsEncounter entries pair encounter
  pub parts_are : race ≡ parts_of setting pair encounter

-- The findings and the races of these pairs of the trace with this number were added, one pair after another.
pub data AddsKept (setting : Setting) (trace : ℕ) (entries : List Entry) (old : Kept) : List Pair → Kept → Type 0 where
  none : AddsKept setting trace entries old [] old
  more : {pairs : List Pair} {kept : Kept} (pair : Pair) (finding : Finding) (race : RaceParts) → AddsKept setting trace entries old pairs kept →
      IsFinding setting trace entries pair finding → IsRace setting entries pair race →
      AddsKept setting trace entries old (pairs ++ pair ∷ []) (with_kept kept finding race)

-- What is kept of several traces: also the files of which not all pairs are kept, and how many refusals, requests and traces there were.
pub record Recorded : Type 0 where
  pub kept : Kept
  pub untold : List Data
  pub refusals : ℕ
  pub requests : ℕ
  pub traces : ℕ

abbrev pub nothing_recorded : Recorded
nothing_recorded = record { kept = record { findings = []; races = [] }; untold = []; refusals = 0; requests = 0; traces = 0 }

-- a file of which not all pairs are kept, and how many are not
abbrev pub untold_told : (file : List ℕ) → (count : ℕ) → Data
untold_told file count =
    object (member (codes "file") (text_told file) (member (codes "pairs") (count_told count) no_members))

abbrev pub untold_in : (file : List ℕ) → (most count : ℕ) → List Data
untold_in file most count = if nat_lt most count then untold_told file (count - most) ∷ [] else []

-- The first of so many pairs were added, and nothing else has changed.
pub record AddsPairs (setting : Setting) (entries : List Entry) (most : ℕ) (old new : Recorded) (count : ℕ) : Type 0 where
  pub pairs : List Pair
  pub are_pairs : ArePairs entries pairs
  pub count_is : count ≡ length pairs
  pub kept : AddsKept setting old.traces entries old.kept (take most pairs) new.kept
  pub rest : new ≡ record old { kept = new.kept }

-- A trace was added: its first pairs.
pub record AddsTrace (extent : Extent) (file : List ℕ) (setting : Setting) (entries : List Entry) (old new : Recorded) : Type 0 where
  pub pairs : List Pair
  pub are_pairs : ArePairs entries pairs
  pub kept : AddsKept setting old.traces entries old.kept (take (most_pairs extent) pairs) new.kept
  pub untold_is : new.untold ≡ old.untold ++ untold_in file (most_pairs extent) (length pairs)
  pub refusals_are : new.refusals ≡ added_up old.refusals (refusals_among entries)
  pub requests_are : new.requests ≡ added_up old.requests (length entries)
  pub traces_are : new.traces ≡ added_up old.traces 1

-- ---- what is told of it

abbrev pub names_of : Finding → List (List ℕ)
names_of finding = map (λ (name : Vec ℕ). name.items) finding.names.keys

-- a race with the names and the count of its finding
abbrev pub found_told : (group : ℕ) → (is_sure : Bool) → Option Finding → Option RaceParts → List Data
found_told group is_sure (Some finding) (Some race) = race_told race (names_of finding) finding.times group is_sure ∷ []
found_told group is_sure (Some finding) None = []
found_told group is_sure None race = []

-- of the finding at a place, in the group with this number
abbrev pub found_at : List Finding → List RaceParts → (group : ℕ) → (is_sure : Bool) → ℕ → List Data
found_at findings races group is_sure place = found_told group is_sure (slice_get findings place) (slice_get races place)

abbrev pub found_places : List Finding → List RaceParts → (group : ℕ) → (is_sure : Bool) → (places : List ℕ) → List Data
found_places findings races group is_sure places = flat_map (found_at findings races group is_sure) places

-- of a group
abbrev pub found_group : List Finding → List RaceParts → (group : ℕ) → (places : List ℕ) → List Data
found_group findings races group places = found_places findings races group (are_sure findings places) places

-- of groups with numbers from this one on
abbrev pub found_groups : List Finding → List RaceParts → (group : ℕ) → List (List ℕ) → List Data
found_groups findings races group [] = []
found_groups findings races group (places ∷ groups) = found_group findings races group places ++ found_groups findings races (suc group) groups

-- of all findings, in groups of those that part at one spawn
abbrev pub races_told : List Finding → List RaceParts → List Data
races_told findings races = found_groups findings races 1 (groups_of findings)

-- how many findings there are, where all are kept
abbrev pub all_of : List Data → ℕ → Option ℕ
all_of [] count = Some count
all_of (file ∷ untold) count = None

abbrev pub outcome_of : (refusals : ℕ) → Outcome
outcome_of refusals = if nat_lt 0 refusals then Raced else Clean

-- how they came out
abbrev pub summary_recorded : Recorded → SummaryParts
summary_recorded recorded = record {
  outcome = outcome_of recorded.refusals;
  pairs = all_of recorded.untold (length recorded.kept.findings);
  refusals = recorded.refusals;
  requests = recorded.requests;
  traces = recorded.traces;
}

-- The first races, how many there are, and how many refusals there were.
abbrev pub recorded_told : Extent → Recorded → (runs : List (List ℕ)) → Data
recorded_told extent recorded runs =
    document_told (summary_recorded recorded) null
    (races_told (take (most_pairs extent) recorded.kept.findings) (take (most_pairs extent) recorded.kept.races)) runs recorded.untold
    none_warned
