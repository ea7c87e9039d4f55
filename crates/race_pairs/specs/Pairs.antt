-- The pairs of lines that raced.
use Rattle.std.specs.Prelude.{◌≡◌, ℕ, List, length, map, Some}
use Rattle.std.specs.List.{All}
use Rattle.model_histories.specs.declared.answer.Entry.{Entry}
use Rattle.race_pairs.specs.declared.refusal.Refusal.{Refusal}
use Rattle.race_pairs.specs.declared.race.Pair.{Pair}
use Rattle.race_pairs.specs.Refusals.{refusal_at, lines_of}
use Rattle.race_pairs.specs.PairKeys.{HasSpawn, HasKey, key_of}
use Rattle.race_pairs.specs.Firsts.{AreFirsts, Tells}

-- The pair tells of the entries up to a last number: its first entry is a refusal with its lines, its spawn and its witness, and so many of
-- them have its lines and its spawn.
pub record IsPair (told : List Entry) (last : ℕ) (pair : Pair) : Type 0 where
  pub refusal : Refusal
  pub refused : refusal_at told pair.first ≡ Some refusal
  pub has_lines : pair.lines ≡ lines_of told refusal
  pub has_spawn : HasSpawn told pair.first pair.spawn
  pub has_witness : pair.witness ≡ refusal.witness
  pub counts : Tells (HasKey told) (key_of pair) last pair.times

-- The pairs of lines of the refusals among the entries up to a last number, in the order of their first refusals: one for all that have the
-- same lines and the same spawn.
pub record ArePairsUpTo (told : List Entry) (last : ℕ) (pairs : List Pair) : Type 0 where
  pub firsts : AreFirsts (HasKey told) last (map (λ pair. pair.first) pairs)
  pub each : All (IsPair told last) pairs

-- the pairs of lines of all refusals
abbrev pub ArePairs : List Entry → List Pair → Type 0
ArePairs told pairs = ArePairsUpTo told (length told) pairs
