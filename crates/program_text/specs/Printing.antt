-- The plain text of a program: each item on its own line, words separated by one space, numbers without leading zeros.
use Rattle.std.specs.Prelude.{◌≡◌, ℕ, ◌+◌, ◌-◌, List, [], ◌∷◌, ◌++◌, codes, map, flat_map, replicate}
use Rattle.text_words.specs.Values.{Known, version_spelling}
use Rattle.trace_text.specs.Printing.{Entry, declarations, entry_text, spaced, entry_line}
use Rattle.model_bodies.specs.declared.statement.Statement.{Statement}
use Rattle.model_bodies.specs.Lines.{line_of}
use Rattle.program_lines.specs.Printing.{printed_scope, statement_words}
use Rattle.model_bodies.specs.Codes.{Code}
use Rattle.program_text.specs.Drafts.{Contents}
use Rattle.program_text.specs.Grammar.{TextMeans}

-- A line with words: its number and its text.
pub record Row : Type 0 where
  pub line : ℕ
  pub text : List ℕ

abbrev pub names_of : List Code → List (List ℕ)
names_of functions = map (λ code. code.name) functions

-- ---- lines with words

abbrev pub declared_row : Known → Entry → Row
declared_row known entry = record { line = entry_line entry; text = entry_text known entry }

abbrev pub begin_row : Code → Row
begin_row code = record { line = code.line; text = spaced (codes "func" ∷ code.name ∷ code.parameter ∷ []) }

-- A statement of a function with these registers, in a text with these functions.
abbrev pub statement_row : Known → (names registers : List (List ℕ)) → Statement → Row
statement_row known names registers statement =
    record {
      line = line_of statement;
      text = spaced (statement_words (printed_scope known.version known.mems known.reducers names registers) statement);
    }

abbrev pub end_row : Code → Row
end_row code = record { line = code.end_line; text = codes "end" }

abbrev pub body_rows : Known → (names registers : List (List ℕ)) → List Statement → List Row
body_rows known names registers body = map (statement_row known names registers) body

abbrev pub function_rows : Known → List (List ℕ) → Code → List Row
function_rows known names code = begin_row code ∷ (body_rows known names code.registers code.body ++ end_row code ∷ [])

abbrev pub rows_of_functions : Known → List (List ℕ) → List Code → List Row
rows_of_functions known names functions = flat_map (function_rows known names) functions

-- The lines with words behind the first.
abbrev pub rows : Contents → List Row
rows contents =
    map (declared_row contents.known) (declarations contents.known.mems contents.known.reducers)
    ++ rows_of_functions contents.known (names_of contents.functions) contents.functions

-- ---- the text

-- These lines from that with the number `at` on, with a blank line where none stands.
abbrev pub lines_from : ℕ → List Row → List (List ℕ)
lines_from at [] = []
lines_from at (row ∷ rows) = replicate (row.line - at) [] ++ row.text ∷ lines_from (row.line + 1) rows

abbrev pub plain_lines : Contents → List (List ℕ)
plain_lines contents = spaced (codes "cilk" ∷ version_spelling contents.known.version ∷ []) ∷ lines_from 2 (rows contents)

-- The plain text, in which a line feed ends each line.
abbrev pub plain_text : Contents → List ℕ
plain_text contents = flat_map (λ line. line ++ 10 ∷ []) (plain_lines contents)

-- What some text means, its plain text means.
abbrev pub PlainMeaning : Type 0
PlainMeaning = (text : List ℕ) (contents : Contents) → TextMeans text contents → TextMeans (plain_text contents) contents

-- And it means nothing else, so what is printed and read again is the same.
abbrev pub NoOtherMeaning : Type 0
NoOtherMeaning =
    (text : List ℕ) (contents other : Contents) → TextMeans text contents → TextMeans (plain_text contents) other → other ≡ contents

-- ---- what is printed so far

abbrev pub text_from : ℕ → List Row → List ℕ
text_from at rows = flat_map (λ line. line ++ 10 ∷ []) (lines_from at rows)

-- The text has grown by these lines, and the next line has the number `next`.
abbrev pub PrintsRows : List ℕ → ℕ → List Row → List ℕ → ℕ → Type 0
PrintsRows old at printed new next = (rows : List Row) → new ++ text_from next rows ≡ old ++ text_from at (printed ++ rows)
