use Rattle.std.proofs.Common.{◌≡◌, ◌++◌, ℕ, List}
use Rattle.race_pairs.specs.Lineages.{Encloses}
use Rattle.race_pairs.proofs.frames.numbers_from.Given as goal

-- what was found and the numbers of the frames that are left are all
abbrev pub invariant-outward : goal.invariant-outward
invariant-outward l =
    (numbers : List ℕ) → Encloses l.opened l.place numbers → (rest : List ℕ) × Encloses l.opened l.at rest × (l.found.items ++ rest ≡ numbers)

abbrev pub decreases-outward : goal.decreases-outward
decreases-outward l = l.at
