-- The first pairs of lines that raced, with what they raced on, and which pairs there are.
use Rattle.std.specs.Prelude.{◌≡◌, ◌≤◌, ℕ, suc, true, List, length, map, reverse, take, Some}
use Rattle.std.specs.List.{All}
use Rattle.model_histories.specs.declared.answer.Entry.{Entry}
use Rattle.race_pairs.specs.declared.refusal.Lines.{Lines}
use Rattle.race_pairs.specs.declared.race.Pair.{Pair}
use Rattle.race_pairs.specs.declared.race.Race.{Race}
use Rattle.race_pairs.specs.declared.races.Races.{Races}
use Rattle.race_pairs.specs.declared.known.Known.{Known}
use Rattle.race_pairs.specs.Refusals.{HasLines, access_at, IsSideAt}
use Rattle.race_pairs.specs.PairKeys.{key_of}
use Rattle.race_pairs.specs.Pairs.{ArePairsUpTo}
use Rattle.race_pairs.specs.Places.{IsPlaced}
use Rattle.race_pairs.specs.Known.{has_own, Knows}
use Rattle.race_pairs.specs.Sightings.{IsSighting}
use Rattle.race_pairs.specs.Lineages.{Kept, IsLineage, AreBegun}
use Rattle.race_pairs.specs.declared.sighting.Sighting.{Sighting}
use Rattle.model_histories.specs.Shapes.{Shape}
use Rattle.model_histories.specs.Legal.{IsLegal}

-- Of the entries up to a last number: which accesses the first refused one of the pair and its witness are, and the cells or reducers on
-- which the pair raced.
pub record IsRace (told : List Entry) (last : ℕ) (race : Race) : Type 0 where
  pub refused : access_at told race.pair.first ≡ Some race.refused
  pub witness : IsSideAt told race.pair.witness race.witness
  pub placed : IsPlaced told (key_of race.pair) last race.places.items race.seen.keys

-- The races are the first of these pairs, so many at most.
pub record AreRaces (told : List Entry) (last most : ℕ) (races : List Race) (pairs : List Pair) : Type 0 where
  pub are_pairs : ArePairsUpTo told last pairs
  pub first : map (λ race. race.pair) races ≡ take most pairs
  pub each : All (IsRace told last) races

-- The races are those of the first pairs of the entries up to a last number, and all pairs are known.
pub record AreKept (told : List Entry) (last : ℕ) (races : Races) : Type 0 where
  pub pairs : List Pair
  pub knows : Knows races.known pairs
  pub few : length pairs ≤ last
  pub are : AreRaces told last races.most races.list.items pairs

-- no refusal among the entries up to a last number has these lines
abbrev pub IsFresh : List Entry → ℕ → Lines → Type 0
IsFresh told last lines = (number : ℕ) → number ≤ last → HasLines told number lines → ⊥

-- so it is, where no two refusals have one line
abbrev pub IsFreshBy : Known → List Entry → ℕ → Lines → Type 0
IsFreshBy known told last lines = has_own known ≡ true → IsFresh told last lines

-- the lineage and the lines are those of these entries, in which the two strands have begun
abbrev pub AreStrandsOf : List Entry → Kept → List ℕ → ℕ → ℕ → Type 0
AreStrandsOf told lineage lines strand other =
    AreBegun lineage (reverse told) strand other × (lines ≡ map (λ entry. entry.request.line) told)

-- The refusal is that of the entry behind the last number, and the lineage and the lines are those of the entries up to it, which are a legal
-- history.
pub record IsSeen (told : List Entry) (last : ℕ) (lineage : Kept) (lines : List ℕ) (sighting : Sighting) : Type 0 where
  pub sighting_is : IsSighting told (suc last) sighting
  pub seen : IsSighting (take (suc last) told) (suc last) sighting
  pub legal : (shape : Shape) × IsLegal shape (reverse (take (suc last) told))
  pub lineage_is : IsLineage lineage (reverse (take (suc last) told))
  pub lines_are : lines ≡ map (λ entry. entry.request.line) (take (suc last) told)
