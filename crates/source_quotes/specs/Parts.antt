-- A part of a line, and the sign below it.
use Rattle.std.specs.Prelude.{ℕ, ◌+◌, ◌≤◌, ◌==◌, if◌then◌else◌, List, ◌++◌, length, map, take, codes, replicate}
use Rattle.source_quotes.specs.declared.look.Look.{Look}
use Rattle.source_quotes.specs.declared.look.Paint.{Paint}
use Rattle.source_quotes.specs.declared.part.Span.{Span}
use Rattle.source_quotes.specs.Quotes.{gutter, painted}

-- It lies within the line.
abbrev pub IsWithin : Span → List ℕ → Type 0
IsWithin span line = span.from + span.count ≤ length line

-- what stands below these bytes: their tabs, and a space for each other byte
abbrev pub indent : List ℕ → List ℕ
indent bytes = map (λ byte. if byte == 9 then 9 else 32) bytes

-- below a line, this sign in a paint under a part of it
abbrev pub sign_below : Look → Paint → List ℕ → Span → ℕ → List ℕ
sign_below look paint line span mark =
    gutter look ++ codes " " ++ indent (take span.from line) ++ painted look paint (replicate span.count mark)
