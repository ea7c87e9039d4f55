-- The first behind a spawn of the spawns and calls that enclose an access.
use Rattle.std.specs.Prelude.{◌≡◌, ◌⊎◌, ◌<◌, ◌≤◌, ℕ, List, Option, Some, None, MatchOption}
use Rattle.std.specs.List.{All, Contains}

-- of these numbers this is the least above a bound, where one is above it
abbrev pub IsLeast : ℕ → List ℕ → Option ℕ → Type 0
IsLeast bound numbers least =
    MatchOption least (All (λ number. number ≤ bound) numbers)
    (λ found. Contains numbers found × (bound < found) × All (λ number. bound < number → found ≤ number) numbers)

-- it is the least of these numbers above a bound, or another one where none is above it
abbrev pub IsToward : ℕ → ℕ → List ℕ → ℕ → Type 0
IsToward bound other numbers found = (IsLeast bound numbers None × (found ≡ other)) ⊎ IsLeast bound numbers (Some found)
