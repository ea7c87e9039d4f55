-- The digits of a number but for its last two.
use Rattle.std.specs.Prelude.{ℕ, List, [], ◌==◌, decimal, if◌then◌else◌}

-- the digits of its hundredth, of which there are none where that is 0
abbrev pub leading : ℕ → List ℕ
leading above = if above == 0 then [] else decimal above
