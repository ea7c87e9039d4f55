-- A pair of lines with what it raced on, as refusals are counted.
use Rattle.std.specs.Prelude.{◌≡◌, ◌⊎◌, ◌<◌, ◌≤◌, ℕ, suc, true, false, cond, eqb, List, [], ◌∷◌, ◌++◌, length, get_or, slice_set, Option, if◌then◌else◌}
use Rattle.std.specs.List.{list_any}
use Rattle.race_pairs.specs.declared.refusal.Side.{Side}
use Rattle.race_pairs.specs.declared.sighting.Sighting.{Sighting}
use Rattle.race_pairs.specs.declared.race.Pair.{Pair}
use Rattle.race_pairs.specs.declared.race.Race.{Race}

-- the race of a pair that was refused once, on this place
pub record IsNewRace (pair : Pair) (refused : Side) (witness : Option Side) (place : ℕ) (race : Race) : Type 0 where
  pub pair_is : race.pair ≡ pair
  pub refused_is : race.refused ≡ refused
  pub witness_is : race.witness ≡ witness
  pub places_are : race.places.items ≡ place ∷ []
  pub sees : (other : ℕ) → list_any (eqb other) race.seen.keys ≡ cond (eqb place other) true false

-- the race with one refusal more, on this place
pub record HasAgain (place : ℕ) (old new : Race) : Type 0 where
  pub pair_is : new.pair ≡ record old.pair { times = suc old.pair.times }
  pub refused_is : new.refused ≡ old.refused
  pub witness_is : new.witness ≡ old.witness
  pub places_are : new.places.items ≡
      (if list_any (eqb place) old.seen.keys then old.places.items else old.places.items ++ place ∷ [])
  pub sees : (other : ℕ) → list_any (eqb other) new.seen.keys ≡ cond (eqb place other) true (list_any (eqb other) old.seen.keys)

-- the race at an index is counted once more, where there is one
abbrev pub IsCounted : (before place : ℕ) → (old new : List Race) → Type 0
IsCounted before place old new =
    ((length old ≤ before) × (new ≡ old)) ⊎
    ((more : Race) × (before < length old) × ((d : Race) → HasAgain place (get_or old before d) more) × (new ≡ slice_set old before more))

-- the pair that a refusal with this spawn begins
abbrev pub pair_begun : Sighting → Option ℕ → Pair
pair_begun sighting spawn = record {
  lines = sighting.lines;
  spawn = spawn;
  first = sighting.number;
  witness = sighting.witness_number;
  times = 1;
}

abbrev pub IsBegunBy : Sighting → Option ℕ → Race → Type 0
IsBegunBy sighting spawn race = IsNewRace (pair_begun sighting spawn) sighting.refused sighting.witness sighting.place race

-- a race that the refusal begins is behind the others, unless there are so many
abbrev pub IsBegun : ℕ → Sighting → Option ℕ → (old new : List Race) → Type 0
IsBegun most sighting spawn old new =
    ((most ≤ length old) × (new ≡ old)) ⊎
    ((length old < most) × (race : Race) × IsBegunBy sighting spawn race × (new ≡ old ++ race ∷ []))
