-- Races grouped by the spawn at which their strands part.
use Rattle.std.specs.Prelude.{◌≡◌, ◌<◌, ℕ, eqb, List, [], ◌∷◌, ◌++◌, length, get_or, slice_set, Option, Some, None, MatchOption}
use Rattle.std.specs.HashMap.{HashMap, get}
use Rattle.std.specs.List.{All, AllPairs, Contains}
use Rattle.race_pairs.specs.declared.race.Race.{Race}
use Rattle.race_pairs.specs.declared.groups.Group.{Group}

-- the strands of the race at an index part at the spawn on this line, or at none
abbrev pub IsOfSpawn : List Race → Option ℕ → ℕ → Type 0
IsOfSpawn races spawn place = (place < length races) × ((d : Race) → (get_or races place d).pair.spawn ≡ spawn)

-- The group has at least one race, and each at an index below a bound is of its spawn. The indices rise. A race that is of no spawn is
-- alone.
pub record IsGroup (races : List Race) (bound : ℕ) (group : Group) : Type 0 where
  pub some : 0 < length group.places.items
  pub each : All (IsOfSpawn races group.spawn) group.places.items
  pub below : All (λ place. place < bound) group.places.items
  pub rise : AllPairs (λ one other. one < other) group.places.items
  pub alone : group.spawn ≡ None → length group.places.items ≡ 1

-- the index of its first race
abbrev pub first_of : Group → ℕ
first_of group = get_or group.places.items 0 0

-- no two groups are of one spawn
abbrev pub AreApart : Group → Group → Type 0
AreApart one other = (line : ℕ) → one.spawn ≡ Some line → other.spawn ≡ Some line → ⊥

-- the race at this index is in the group at a place
abbrev pub IsInGroup : List Group → ℕ → Type 0
IsInGroup groups place = (at : ℕ) × (at < length groups) × ((d : Group) → Contains (get_or groups at d).places.items place)

-- The groups of the races before a bound. Each race is in one of them. There is one for each spawn, and they stand in the order of their
-- first races.
pub record AreGroupsUpTo (races : List Race) (bound : ℕ) (groups : List Group) : Type 0 where
  pub each : All (IsGroup races bound) groups
  pub whole : (place : ℕ) → place < bound → IsInGroup groups place
  pub apart : AllPairs AreApart groups
  pub rise : AllPairs (λ one other. first_of one < first_of other) groups

-- the group has one race more
pub record HasOneMore (place : ℕ) (old new : Group) : Type 0 where
  pub spawn_is : new.spawn ≡ old.spawn
  pub places_are : new.places.items ≡ old.places.items ++ place ∷ []

-- there is one group more, of one race
abbrev pub IsGroupMore : Option ℕ → (place : ℕ) → (old new : List Group) → Type 0
IsGroupMore spawn place old new =
    (group : Group) × (group.spawn ≡ spawn) × (group.places.items ≡ place ∷ []) × (new ≡ old ++ group ∷ [])

-- the group at an index has one race more
abbrev pub IsPlaceMore : (at place : ℕ) → (old new : List Group) → Type 0
IsPlaceMore at place old new =
    (group : Group) × (at < length old) × ((d : Group) → HasOneMore place (get_or old at d) group) × (new ≡ slice_set old at group)

-- the group at this index is of the spawn on a line, or none is
abbrev pub IsFoundAt : List Group → ℕ → Option ℕ → Type 0
IsFoundAt groups line found =
    MatchOption found (All (λ group. group.spawn ≡ Some line → ⊥) groups)
    (λ at. (at < length groups) × ((d : Group) → (get_or groups at d).spawn ≡ Some line))

-- the map has for each line the index of its group
abbrev pub AreFound : {S : Type 0} → HashMap ℕ ℕ S → List Group → Type 0
AreFound known groups = (line : ℕ) → IsFoundAt groups line (get eqb known line)

-- no race is in two groups
abbrev pub AreDisjoint : Group → Group → Type 0
AreDisjoint one other = (place : ℕ) → Contains one.places.items place → Contains other.places.items place → ⊥

-- the groups of all races: each race is in exactly one of them
pub record AreGroups (races : List Race) (groups : List Group) : Type 0 where
  pub groups_are : AreGroupsUpTo races (length races) groups
  pub once : AllPairs AreDisjoint groups
