-- Which refusals are of one pair: those of the same lines whose strands part at spawns on the same line.
use Rattle.std.specs.Prelude.{◌≡◌, ℕ, List, reverse, take, Option, Some, None, MatchOption, option_and_then}
use Rattle.std.specs.Option.{option_map}
use Rattle.model_histories.specs.declared.answer.Entry.{Entry}
use Rattle.race_pairs.specs.declared.lineage.Parting.{Parting}
use Rattle.race_pairs.specs.declared.race.Pair.{Pair}
use Rattle.race_pairs.specs.declared.race.PairKey.{PairKey}
use Rattle.race_pairs.specs.Partings.{IsParting}
use Rattle.race_pairs.specs.Refusals.{line_at, refusal_at, strand_at, HasLines}

-- two strands part at a spawn on this line, or at none
abbrev pub PartOn : List Entry → ℕ → ℕ → Option ℕ → Type 0
PartOn told strand other None = (parting : Parting) → IsParting (reverse told) strand other parting → ⊥
PartOn told strand other (Some line) =
    (parting : Parting) × IsParting (reverse told) strand other parting × (line_at told parting.entry ≡ line)

-- the strands of the refusal with this number and of its witness, where both are there
abbrev pub strands_at : List Entry → ℕ → Option (ℕ × ℕ)
strands_at told number =
    option_and_then (λ refusal. option_and_then (λ refused. option_map (λ witness. (refused, witness)) (strand_at told refusal.witness))
    (strand_at told number)) (refusal_at told number)

-- the strands of the refusal with this number and of its witness part at a spawn on this line, or at none, as where there is no witness
abbrev pub IsSpawnLine : List Entry → ℕ → Option ℕ → Type 0
IsSpawnLine told number spawn = MatchOption (strands_at told number) (spawn ≡ None) (λ strands. PartOn told strands.0 strands.1 spawn)

-- the same in the history that ends with the refusal
abbrev pub HasSpawn : List Entry → ℕ → Option ℕ → Type 0
HasSpawn told number spawn = IsSpawnLine (take number told) number spawn

-- the entry with this number is a refusal with these lines and this spawn
abbrev pub HasKey : List Entry → ℕ → PairKey → Type 0
HasKey told number key = HasLines told number key.lines × HasSpawn told number key.spawn

abbrev pub key_of : Pair → PairKey
key_of pair = record { lines = pair.lines; spawn = pair.spawn }
