-- The lines that heads and further numbers stand for.
use Rattle.std.specs.Prelude.{◌≡◌, ℕ, List, [], ◌∷◌, ◌++◌, ◌+◌, ◌/◌, ◌%◌, ◌^◌, ◌==◌, drop, get_or, if◌then◌else◌}
use Rattle.text_words.specs.declared.value.TraceLine.{TraceLine}
use Rattle.packed_trace.specs.declared.lines.Iter.{Iter}
use Rattle.packed_trace.specs.Heads.{marker, strand_in, line_of_head, line_of_numbers}

-- the lines of the heads, behind the line with the number `last`; each head that is not enough takes three of the numbers, or 0 for those
-- that are not there
abbrev pub lines_from : (last : ℕ) (heads numbers : List ℕ) → List TraceLine
lines_from last [] numbers = []
lines_from last (head ∷ heads) numbers =
    if strand_in head == marker
    then line_of_numbers head (get_or numbers 0 0) (get_or numbers 1 0) (get_or numbers 2 0) ∷
    lines_from (get_or numbers 2 0 / 2 % 2 ^ 32) heads (drop 3 numbers)
    else line_of_head last head ∷ lines_from ((last + 1) % 2 ^ 32) heads numbers

-- no line is broken off at the end, and the last one has the number `last`: what is put behind is read behind it
abbrev pub AreWhole : (heads numbers : List ℕ) (last : ℕ) → Type 0
AreWhole heads numbers last =
    (more others : List ℕ) → lines_from 0 (heads ++ more) (numbers ++ others) ≡ lines_from 0 heads numbers ++ lines_from last more others

-- the lines that are still to come
unfoldable pub lines_left : Iter → List TraceLine
lines_left iter = lines_from iter.last iter.heads.now iter.numbers.now
