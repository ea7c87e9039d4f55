-- Spans of numbers.
use Rattle.std.specs.Prelude.{◌≡◌, ◌≤◌, ℕ, Bool, false, ◌&&◌, ◌||◌, leb, ltb, List, [], ◌∷◌, length, take}
use Rattle.serial_judge.specs.declared.spans.Span.{Span}

abbrev pub has_number : Span → ℕ → Bool
has_number span number = leb span.begin number && ltb number span.end

-- one of the spans has the number
abbrev pub is_held : List Span → ℕ → Bool
is_held [] number = false
is_held (span ∷ spans) number = has_number span number || is_held spans number

-- the spans lie one behind another from `low` up to `high`
abbrev pub IsAscending : ℕ → List Span → ℕ → Type 0
IsAscending low [] high = low ≤ high
IsAscending low (span ∷ spans) high = (low ≤ span.begin) × (span.begin ≤ span.end) × IsAscending span.end spans high

-- the numbers of one more span have come to the spans, the first of which are as they were
pub record IsAdded (old new : List Span) (fixed : ℕ) (span : Span) : Type 0 where
  pub held : (number : ℕ) → is_held new number ≡ is_held old number || has_number span number
  pub ascending : IsAscending 1 new span.end
  pub as_before : (count : ℕ) → count ≤ fixed → take count new ≡ take count old
  pub no_fewer : fixed ≤ length new
