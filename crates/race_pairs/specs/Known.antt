-- Which pairs of lines raced.
use Rattle.std.specs.Prelude.{◌≡◌, ◌<◌, ℕ, Bool, true, false, List, length, get_or, MatchOption}
use Rattle.std.specs.List.{All}
use Rattle.std.specs.HashMap.{get, hash_map_len}
use Rattle.race_pairs.specs.declared.race.Pair.{Pair}
use Rattle.race_pairs.specs.declared.race.PairKey.{PairKey}
use Rattle.race_pairs.specs.contracts.race.PairKeyPartialEq.TheImpl.{eq-value}
use Rattle.race_pairs.specs.declared.known.Known.{Known}
use Rattle.race_pairs.specs.declared.known.Known.TheVariants.{Own, Among}
use Rattle.race_pairs.specs.PairKeys.{key_of}

-- no two refusals have one line
abbrev pub has_own : Known → Bool
has_own (Own count) = true
has_own (Among all) = false

abbrev pub known_count : Known → ℕ
known_count (Own count) = count
known_count (Among all) = hash_map_len all

-- none of the pairs has the key
abbrev pub IsNewKey : PairKey → List Pair → Type 0
IsNewKey key pairs = All (λ pair. key_of pair ≡ key → ⊥) pairs

-- so many pairs stand before one with the key
abbrev pub IsKeyAt : PairKey → List Pair → ℕ → Type 0
IsKeyAt key pairs before = (before < length pairs) × ((d : Pair) → key_of (get_or pairs before d) ≡ key)

-- these are the pairs
abbrev pub Knows : Known → List Pair → Type 0
Knows (Own count) pairs = count ≡ length pairs
Knows (Among all) pairs =
    (hash_map_len all ≡ length pairs) ×
    ((key : PairKey) → MatchOption (get eq-value.it all key) (IsNewKey key pairs) (IsKeyAt key pairs))
