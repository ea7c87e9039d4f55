-- What is told of a pair of places that raced.
use Rattle.std.specs.Prelude.{ℕ, suc, ◌≡◌, Bool, List, [], ◌∷◌, ◌++◌, Option, Some, None, codes, drop, flat_map, map, slice_get, if◌then◌else◌}
use Rattle.serde_json.specs.Data.{Data, Members, null, string, object, member, no_members}
use Rattle.model_accesses.specs.Table.{spelling}
use Rattle.model_histories.specs.declared.answer.Entry.{Entry}
use Rattle.race_pairs.specs.declared.refusal.Reason.{Reason}
use Rattle.race_pairs.specs.declared.refusal.Reason.TheVariants.{Race, ViewRead, Unset}
use Rattle.race_pairs.specs.declared.race.Pair.{Pair}
use Rattle.race_pairs.specs.declared.race.Race.{Race as OneRace}
use Rattle.race_pairs.specs.Groups.{AreGroups}
use Rattle.race_pairs.specs.declared.groups.Group.{Group}
use Rattle.race_pairs.specs.declared.encounter.Encounter.{Encounter}
use Rattle.race_explanations.specs.declared.case.Case.{Case}
use Rattle.race_explanations.specs.Settings.{Setting}
use Rattle.race_explanations.specs.Titles.{told_names}
use Rattle.race_explanations.specs.Groups.{is_group_sure}
use Rattle.race_explanations.specs.Cases.{AreCases}
use Rattle.race_records.specs.Values.{text_told, count_told, number_or_null, list_told}
use Rattle.race_records.specs.Accesses.{access_told}
use Rattle.race_records.specs.Advice.{AdviceParts, advice_of}

abbrev pub rule_word : Reason → List ℕ
rule_word (Race earlier refused) = codes "determinacy-race"
rule_word ViewRead = codes "view-read-race"
rule_word Unset = codes "unset-get"

abbrev pub kind_word : Reason → List ℕ
kind_word (Race earlier refused) = spelling earlier ++ codes "-" ++ spelling refused
kind_word ViewRead = codes "view-read"
kind_word Unset = codes "unset"

-- the earlier access, where there is one
abbrev pub witness_told : Reason → Setting → Pair → Encounter → Data
witness_told Unset setting pair encounter = null
witness_told reason setting pair encounter = access_told setting pair.witness encounter.witness encounter.witness_chain.items

-- a name that stands behind a space
abbrev pub name_told : List ℕ → Data
name_told spaced = text_told (drop 1 spaced)

-- what is told of a pair but for the names of what it raced on, and how often
pub record RaceParts : Type 0 where
  pub reason : Reason
  pub spawn : Option ℕ
  pub advice : AdviceParts
  pub refused : Data
  pub witness : Data

abbrev pub parts_of : Setting → Pair → Encounter → RaceParts
parts_of setting pair encounter = record {
  reason = pair.lines.reason;
  spawn = pair.spawn;
  advice = advice_of pair.lines.reason setting pair encounter;
  refused = access_told setting pair.first (Some encounter.refused) encounter.chain.items;
  witness = witness_told pair.lines.reason setting pair encounter;
}

-- the members that neither the names nor the group of a pair change
abbrev pub race_members : RaceParts → Members
race_members parts =
    member (codes "kind") (string (kind_word parts.reason))
    (member (codes "outstanding") parts.advice.outstanding
    (member (codes "parting") parts.advice.parting
    (member (codes "refused") parts.refused
    (member (codes "rule") (string (rule_word parts.reason))
    (member (codes "spawn_line") (number_or_null parts.spawn)
    (member (codes "witness") parts.witness no_members))))))

-- what is told of a pair: the names of the cells or reducers on which it raced, each behind a space, how often, the number of its group, and
-- whether a sync orders all of it
abbrev pub race_told : RaceParts → (names : List (List ℕ)) → (times group : ℕ) → (is_sure : Bool) → Data
race_told parts names times group is_sure =
    object (member (codes "group") (count_told group)
    (member (codes "help") (if is_sure then parts.advice.sure_help else parts.advice.open_help)
    (member (codes "kind") (string (kind_word parts.reason))
    (member (codes "locations") (list_told name_told names)
    (member (codes "outstanding") parts.advice.outstanding
    (member (codes "parting") parts.advice.parting
    (member (codes "refused") parts.refused
    (member (codes "rule") (string (rule_word parts.reason))
    (member (codes "spawn_line") (number_or_null parts.spawn)
    (member (codes "times") (count_told times)
    (member (codes "witness") parts.witness no_members)))))))))))

-- what is told of a race in the group with this number, by whether a sync orders all of the group
abbrev pub pair_told : Setting → (group : ℕ) → (is_sure : Bool) → Pair → (places : List ℕ) → Encounter → Data
pair_told setting group is_sure pair places encounter =
    race_told (parts_of setting pair encounter) (told_names setting pair.lines.reason places) pair.times group is_sure

abbrev pub case_told : Setting → (group : ℕ) → (is_sure : Bool) → Case → Data
case_told setting group is_sure case = pair_told setting group is_sure case.race.now.pair case.race.now.places.items case.encounter

abbrev pub told_of : Setting → (group : ℕ) → (is_sure : Bool) → Option Case → List Data
told_of setting group is_sure (Some case) = case_told setting group is_sure case ∷ []
told_of setting group is_sure None = []

-- of the case at a place
abbrev pub told_at : Setting → List Case → (group : ℕ) → (is_sure : Bool) → ℕ → List Data
told_at setting cases group is_sure place = told_of setting group is_sure (slice_get cases place)

-- of the races of a group
abbrev pub places_told : Setting → List Case → (group : ℕ) → (is_sure : Bool) → (places : List ℕ) → List Data
places_told setting cases group is_sure places = flat_map (told_at setting cases group is_sure) places

abbrev pub group_told : Setting → List Case → (group : ℕ) → Group → List Data
group_told setting cases group one = places_told setting cases group (is_group_sure setting cases one) one.places.items

-- of the races of groups with numbers from this one on
abbrev pub groups_told : Setting → List Case → (group : ℕ) → List Group → List Data
groups_told setting cases group [] = []
groups_told setting cases group (one ∷ groups) = group_told setting cases group one ++ groups_told setting cases (suc group) groups

-- The values tell of these races, in groups.
pub record TellsRaces (setting : Setting) (entries : List Entry) (races : List OneRace) (values : List Data) : Type 0 where
  pub cases : List Case
  pub are_cases : AreCases entries (map (λ race. race.pair) races) cases
  pub groups : List Group
  pub are_groups : AreGroups races groups
  pub values_are : values ≡ groups_told setting cases 1 groups
