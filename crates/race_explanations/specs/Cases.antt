-- Races, each with how its two accesses came about.
use Rattle.std.specs.Prelude.{ℕ, ◌≡◌, ◌==◌, List, [], ◌∷◌, ◌++◌, unwrap_or}
use Rattle.std.specs.Option.{option_map}
use Rattle.model_histories.specs.declared.answer.Entry.{Entry}
use Rattle.race_pairs.specs.Places.{ArePlaces}
use Rattle.race_pairs.specs.PairKeys.{key_of}
use Rattle.race_pairs.specs.Refusals.{line_in}
use Rattle.race_pairs.specs.Encounters.{IsEncounter}
use Rattle.race_pairs.specs.declared.race.Pair.{Pair}
use Rattle.race_pairs.specs.declared.encounter.Encounter.{Encounter}
use Rattle.race_explanations.specs.declared.case.Case.{Case}
use Rattle.race_explanations.specs.declared.case.Course.{Course}
use Rattle.race_explanations.specs.Settings.{Setting}

-- The case is that of the pair: the cells or reducers on which it raced, and what led to its first refusal and to the witness of that.
pub record IsCase (entries : List Entry) (pair : Pair) (case : Case) : Type 0 where
  pub pair_is : case.race.now.pair ≡ pair
  pub are_places : ArePlaces entries (key_of pair) case.race.now.places.items
  pub is_encounter : IsEncounter entries pair case.encounter

-- The cases are those of the pairs, in their order.
pub data AreCases (entries : List Entry) : List Pair → List Case → Type 0 where
  none : AreCases entries [] []
  more : {pairs : List Pair} {cases : List Case} (pair : Pair) (case : Case) → AreCases entries pairs cases → IsCase entries pair case →
      AreCases entries (pairs ++ pair ∷ []) (cases ++ case ∷ [])

-- the entry of the spawn at which the two strands part, and 0 where they part at none
abbrev pub spawn_of : Encounter → ℕ
spawn_of encounter = unwrap_or (option_map (λ parting. parting.entry) encounter.parting) 0

-- the entry to which the spawner goes on
abbrev pub onward_of : Encounter → ℕ
onward_of encounter = unwrap_or encounter.onward 0

-- where the two strands part, and where the spawner goes on
abbrev pub course_of : Setting → Encounter → Course
course_of setting encounter = record {
  spawn = spawn_of encounter;
  onward = onward_of encounter;
  line = line_in setting.lines (onward_of encounter);
  is_round = line_in setting.lines (onward_of encounter) == line_in setting.lines (spawn_of encounter);
}
