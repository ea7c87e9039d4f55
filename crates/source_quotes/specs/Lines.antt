-- The lines of a source text, and what stands on them.
use Rattle.std.specs.Prelude.{ℕ, ◌+◌, ◌-◌, List, [], ◌∷◌, drop, slice_get, unwrap_or, if◌then◌else◌}
use Rattle.text_words.specs.Text.{is_blank, is_hash}

-- the line with this number, from 1 on, and none behind the last
abbrev pub line_in : List (List ℕ) → ℕ → List ℕ
line_in source number = unwrap_or (slice_get source (number - 1)) []

-- how many blanks stand at the beginning
abbrev pub blanks : List ℕ → ℕ
blanks [] = 0
blanks (byte ∷ bytes) = if is_blank byte then 1 + blanks bytes else 0

-- where the statement ends, which is behind the last byte before the comment that is no blank: `at` is the place of the bytes that are
-- left, `end` what was found in those before
abbrev pub end_from : (at end : ℕ) → List ℕ → ℕ
end_from at end [] = end
end_from at end (byte ∷ bytes) =
    if is_hash byte then end else (if is_blank byte then end_from (at + 1) end bytes else end_from (at + 1) (at + 1) bytes)

-- how long the statement on a line is: all from its first byte that is no blank to its last, without the comment
abbrev pub statement_length : List ℕ → ℕ
statement_length line = end_from 0 0 (drop (blanks line) line)
