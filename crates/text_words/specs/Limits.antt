-- The limits of texts.
use Rattle.std.specs.Prelude.{ℕ}

abbrev pub max_strand : ℕ
max_strand = 4294967295

abbrev pub max_value : ℕ
max_value = 18446744073709551615

abbrev pub most_requests : ℕ
most_requests = 2000000

abbrev pub most_lines : ℕ
most_lines = 4000000
