-- How the strands of a refused access and its witness came about.
use Rattle.std.specs.Prelude.{◌≡◌, ◌⊎◌, ◌↔◌, ◌-◌, ℕ, length, List, [], map, reverse, take, unwrap_or}
use Rattle.std.specs.Prelude.{option_and_then, Option, Some, None, IsSome, IfSome, MatchOption}
use Rattle.std.specs.Option.{option_map}
use Rattle.std.specs.List.{All}
use Rattle.model_accesses.specs.declared.request.Act.{Act}
use Rattle.model_accesses.specs.declared.request.Act.TheVariants.{Spawn}
use Rattle.model_strands.specs.Dag.{IsParallel}
use Rattle.model_histories.specs.declared.answer.Entry.{Entry}
use Rattle.model_histories.specs.Entries.{control_part}
use Rattle.race_pairs.specs.declared.lineage.Parting.{Parting}
use Rattle.race_pairs.specs.declared.lineage.OpenSpawn.{OpenSpawn}
use Rattle.model_histories.specs.Shapes.{Shape}
use Rattle.model_histories.specs.Legal.{IsLegal}
use Rattle.race_pairs.specs.Frames.{frames}
use Rattle.race_pairs.specs.Lineages.{Kept, IsLineage}
use Rattle.race_pairs.specs.Partings.{IsParting}
use Rattle.race_pairs.specs.OpenSpawns.{IsOutstanding}
use Rattle.race_pairs.specs.declared.refusal.Reason.{Reason}
use Rattle.race_pairs.specs.declared.refusal.Reason.TheVariants.{ViewRead}
use Rattle.race_pairs.specs.declared.race.Pair.{Pair}
use Rattle.race_pairs.specs.declared.race.Race.{Race}
use Rattle.race_pairs.specs.declared.digest.Digest.{Digest}
use Rattle.race_pairs.specs.declared.encounter.Way.{Way}
use Rattle.race_pairs.specs.declared.encounter.Way.TheVariants.{Spawned, Called}
use Rattle.race_pairs.specs.declared.encounter.Link.{Link}
use Rattle.race_pairs.specs.declared.encounter.Encounter.{Encounter}
use Rattle.race_pairs.specs.Refusals.{entry_at, strand_at, access_at, IsSideAt}
use Rattle.race_pairs.specs.Kept.{IsRace}
use Rattle.race_pairs.specs.Onward.{IsToward}
use Rattle.race_pairs.specs.Syncs.{OrdersOnward}
use Rattle.race_pairs.specs.Digests.{IsDigest}

-- the frames of the strand of the entry with this number, before it; none where there is no such entry
abbrev pub chain_at : List Entry → ℕ → List ℕ
chain_at told number =
    unwrap_or (option_map (λ entry. frames (reverse (take (number - 1) told)) entry.request.strand) (entry_at told number)) []

-- the strands of the first refused access of a pair and of its witness, where both are there
abbrev pub strands_of : List Entry → Pair → Option (ℕ × ℕ)
strands_of told pair =
    option_and_then (λ refused. option_map (λ witness. (refused, witness)) (strand_at told pair.witness)) (strand_at told pair.first)

-- the two strands part at that spawn, and at none exactly where they are not parallel
abbrev pub PartAt : List Entry → Pair → Option Parting → Type 0
PartAt told pair parting =
    MatchOption (strands_of told pair) (parting ≡ None)
    (λ strands. IfSome parting (IsParting (reverse told) strands.0 strands.1)
    × (IsSome parting ↔ IsParallel (control_part (reverse told)) strands.0 strands.1))

-- Where the two strands part, this is the first frame behind the spawn of the access whose strand its next strand reaches, or this access.
abbrev pub GoesOn : List Entry → Pair → Option Parting → Option ℕ → Type 0
GoesOn told pair parting onward =
    MatchOption parting (onward ≡ None)
    (λ parting. (found access : ℕ) × (onward ≡ Some found) × ((access ≡ pair.first) ⊎ (access ≡ pair.witness)) ×
    (strand_at told access ≡ Some parting.by_next) × IsToward parting.entry access (chain_at told access) found)

-- of a pair with this reason the spawn is outstanding at one of the two strands and not at the other, where it is a view-read race
abbrev pub IsOpenBy : Reason → List Entry → Pair → Option OpenSpawn → Type 0
IsOpenBy ViewRead told pair found =
    MatchOption (strands_of told pair) (found ≡ None) (λ strands. IfSome found (IsOutstanding (reverse told) strands.1 strands.0))
IsOpenBy reason told pair found = found ≡ None

abbrev pub IsOpenAt : List Entry → Pair → Option OpenSpawn → Type 0
IsOpenAt told pair found = IsOpenBy pair.lines.reason told pair found

-- how an entry came to a function
abbrev pub way_of_act : Act → Way
way_of_act Spawn = Spawned
way_of_act act = Called

abbrev pub way_at : List Entry → ℕ → Way
way_at told number = unwrap_or (option_map (λ entry. way_of_act entry.request.act) (entry_at told number)) Called

-- the lineage is that of these entries, which are a legal history
abbrev pub IsLineageOf : Kept → List Entry → Type 0
IsLineageOf kept told = IsLineage kept (reverse told) × ((shape : Shape) × IsLegal shape (reverse told))

-- a spawn or a call by its number
abbrev pub link_at : List Entry → ℕ → Link
link_at told number = record { entry = number; way = way_at told number }

-- How the strands of a pair's first refusal and its witness came about.
pub record IsEncounter (told : List Entry) (pair : Pair) (encounter : Encounter) : Type 0 where
  pub refused : access_at told pair.first ≡ Some encounter.refused
  pub witness : IsSideAt told pair.witness encounter.witness
  pub chain : encounter.chain.items ≡ map (link_at told) (chain_at told pair.first)
  pub witness_chain : encounter.witness_chain.items ≡ map (link_at told) (chain_at told pair.witness)
  pub parting : PartAt told pair encounter.parting
  pub onward : GoesOn told pair encounter.parting encounter.onward
  pub orders : OrdersOnward told encounter.parting encounter.onward
  pub outstanding : IsOpenAt told pair encounter.outstanding

-- the race is one of these entries, whose digest this is
abbrev pub IsRaceOf : List Entry → Digest → Race → Type 0
IsRaceOf told digest race = IsDigest told digest × IsRace told (length told) race

-- the two strands of the race part there, and these are the frames of its two accesses
pub record IsMet (told : List Entry) (race : Race) (parting : Option Parting) (chain witness_chain : List ℕ) : Type 0 where
  pub race_is : IsRace told (length told) race
  pub part : PartAt told race.pair parting
  pub chain_is : chain ≡ chain_at told race.pair.first
  pub witness_chain_is : witness_chain ≡ chain_at told race.pair.witness

-- and so are all of these
abbrev pub AreRacesOf : List Entry → Digest → List Race → Type 0
AreRacesOf told digest races = IsDigest told digest × All (IsRace told (length told)) races
