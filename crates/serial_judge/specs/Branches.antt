-- Numbers for branches.
use Rattle.std.specs.Prelude.{◌+◌, ◌*◌, ℕ}
use Rattle.law_strands.specs.Branches.{Branch, trunk, left, right}

abbrev pub number_of : Branch → ℕ
number_of trunk = 0
number_of (left number) = 2 * number + 1
number_of (right number) = 2 * number + 2
