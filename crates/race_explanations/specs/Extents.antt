-- How much is told of the races of a run.
use Rattle.std.specs.Prelude.{ℕ, ◌-◌, ◌^◌, nat_lt, List, [], ◌++◌, codes, if◌then◌else◌}
use Rattle.source_quotes.specs.Quotes.{counted}
use Rattle.race_explanations.specs.declared.extent.Extent.{Extent}
use Rattle.race_explanations.specs.declared.extent.Extent.TheVariants.{First, All}

-- how many pairs are kept at most
abbrev pub most_pairs : Extent → ℕ
most_pairs First = 20
most_pairs All = 2 ^ 64 - 1

-- how many of the pairs that part at one spawn are shown at most
abbrev pub most_shown : Extent → ℕ
most_shown First = 3
most_shown All = 2 ^ 64 - 1

-- how many pairs there are more than are told: of what, and what is said of them
abbrev pub more_pairs : (most count : ℕ) → (of_what behind : List ℕ) → List ℕ
more_pairs most count of_what behind =
    if nat_lt most count then codes "and " ++ counted (count - most) (codes "more pair") ++ of_what ++ behind else []
