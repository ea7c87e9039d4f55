-- What the lines of a program mean: a case for each kind of line.
use Rattle.std.specs.Prelude.{◌≡◌, ◌≢◌, ℕ, ◌+◌, ◌<◌, ◌≤◌, false, Option, Some, None, List}
use Rattle.std.specs.Prelude.{[], ◌∷◌, ◌++◌, length, unwrap_or, option_map, MatchOption}
use Rattle.text_words.specs.declared.value.Version.{Version}
use Rattle.text_words.specs.Text.{lines, words, IsTextLine, IsName}
use Rattle.model_accesses.specs.Limits.{most_cells}
use Rattle.model_reducers.specs.Limits.{most_reducers}
use Rattle.text_words.specs.Limits.{most_lines}
use Rattle.text_words.specs.Names.{IsFresh}
use Rattle.program_lines.specs.Scopes.{max_registers}
use Rattle.text_words.specs.Declarations.{cells_of, with_memory, with_reducer}
use Rattle.trace_text.specs.Grammar.{IsHeader}
use Rattle.program_lines.specs.Grammar.{Item, Blank, Declared, Reduces, Begins, Does, Decides, Otherwise, Ends, ItemMeans}
use Rattle.model_bodies.specs.Codes.{main_of}
use Rattle.model_bodies.specs.Sound.{max_functions, max_statements}
use Rattle.program_text.specs.Functions.{functions_of}
use Rattle.program_text.specs.declared.open_function.Part.{Part}
use Rattle.program_text.specs.Drafts.{Open, Draft, Contents, held, begun, registers_of, scope_of, first_open}
use Rattle.program_text.specs.Drafts.{with_register, with_statement, with_choice, with_else, with_part_ended, code_of}

abbrev pub max_nested : ℕ
max_nested = 64

-- ---- one more line

-- The innermost part is the first of its `if`.
abbrev pub IsFirst : List Part → Type 0
IsFirst [] = ⊥
IsFirst (part ∷ parts) = part.second ≡ false

-- Declarations stand before the first `func`, functions outside functions, statements in one, and an `else` behind the first part of an
-- `if`.
abbrev pub IsInOrder : Draft → Item → Type 0
IsInOrder so_far Blank = Unit {0}
IsInOrder so_far (Declared name length) = begun so_far ≡ 0
IsInOrder so_far (Reduces name monoid) = begun so_far ≡ 0
IsInOrder so_far (Begins name parameter) = so_far.current ≡ None
IsInOrder so_far Otherwise = MatchOption so_far.current ⊥ (λ current. IsFirst current.parts)
IsInOrder so_far item = so_far.current ≢ None

-- One more `if` may be open.
abbrev pub HasDepth : Option Open → Type 0
HasDepth None = Unit {0}
HasDepth (Some current) = length current.parts < max_nested

-- The item passes no limit. The first line that is counted, a `func`, is no statement.
abbrev pub HasRoom : Draft → Item → Type 0
HasRoom so_far Blank = Unit {0}
HasRoom so_far (Declared name length) = cells_of so_far.known.mems + unwrap_or length 1 ≤ most_cells
HasRoom so_far (Reduces name monoid) = length so_far.known.reducers < most_reducers
HasRoom so_far (Begins name parameter) = (so_far.lines ≤ max_statements) × (begun so_far < max_functions)
HasRoom so_far (Decides register) = (so_far.lines ≤ max_statements) × HasDepth so_far.current
HasRoom so_far item = so_far.lines ≤ max_statements

-- The register that a statement is the first to name has a name and room.
abbrev pub HasRegister : List (List ℕ) → Option (List ℕ) → Type 0
HasRegister registers None = Unit {0}
HasRegister registers (Some name) = IsName name × (length registers < max_registers)

-- What the words of an item tell of its names: they are names, new ones where the item makes them known, and a new register has room.
abbrev pub IsSaid : Draft → Item → Type 0
IsSaid so_far (Declared name length) = IsName name × IsFresh so_far.known name
IsSaid so_far (Reduces name monoid) = IsName name × IsFresh so_far.known name
IsSaid so_far (Begins name parameter) = IsName name × IsName parameter
IsSaid so_far (Does statement named) = HasRegister (registers_of so_far.current) named
IsSaid so_far item = Unit {0}

-- What was read so far with another open function, and one more line with words.
abbrev pub with_open : Draft → Option Open → Draft
with_open so_far current = record so_far { current = current; lines = so_far.lines + 1 }

abbrev pub ended_by : ℕ → Draft → Open → List Part → Draft
ended_by at so_far current [] = record so_far {
  functions = so_far.functions ++ code_of at current ∷ [];
  current = None;
  lines = so_far.lines + 1;
}
ended_by at so_far current (part ∷ parts) = with_open so_far (Some (with_part_ended at current part parts))

-- An `end`: that of the innermost `if`, or of the function.
abbrev pub ended : ℕ → Draft → Option Open → Draft
ended at so_far None = so_far
ended at so_far (Some current) = ended_by at so_far current current.parts

-- What was read so far, and the item.
abbrev pub extended : ℕ → Draft → Item → Draft
extended at so_far Blank = so_far
extended at so_far (Declared name length) = record so_far { known = with_memory at so_far.known name length }
extended at so_far (Reduces name monoid) = record so_far { known = with_reducer at so_far.known name monoid }
extended at so_far (Begins name parameter) = with_open so_far (Some (first_open at name parameter))
extended at so_far (Does statement named) =
    with_open so_far (option_map (λ current. with_statement (with_register current named) statement) so_far.current)
extended at so_far (Decides register) = with_open so_far (option_map (λ current. with_choice at current register) so_far.current)
extended at so_far Otherwise = with_open so_far (option_map (λ current. with_else at current) so_far.current)
extended at so_far Ends = ended at so_far so_far.current

-- The line with the number `at` says this item, behind what was read so far, in a text with these functions.
abbrev pub LineMeans : List (List ℕ) → ℕ → Draft → List ℕ → Item → Type 0
LineMeans names at so_far line item =
    (at ≤ most_lines) × IsTextLine line × ItemMeans at (scope_of names so_far) (words line) item
    × IsInOrder so_far item × HasRoom so_far item

-- ---- texts

-- At its end each function has ended, and one is `main`.
abbrev pub EndMeans : Draft → Contents → Type 0
EndMeans so_far contents = (so_far.current ≡ None) × (main_of so_far.functions ≢ None) × (contents ≡ held so_far)

-- The lines from the number `at` on lead from what was read so far to the contents.
abbrev pub LinesMean : List (List ℕ) → ℕ → Draft → List (List ℕ) → Contents → Type 0
LinesMean names at so_far [] contents = EndMeans so_far contents
LinesMean names at so_far (line ∷ lines) contents =
    (item : Item) × LineMeans names at so_far line item × LinesMean names (at + 1) (extended at so_far item) lines contents

-- Nothing is read yet.
abbrev pub nothing : Version → Draft
nothing version = record { known = record { version = version; mems = []; reducers = [] }; functions = []; current = None; lines = 0 }

abbrev pub LinesOfProgram : List (List ℕ) → Contents → Type 0
LinesOfProgram [] contents = ⊥
LinesOfProgram (first ∷ rest) contents =
    IsHeader first contents.known.version × LinesMean (functions_of rest) 2 (nothing contents.known.version) rest contents

-- The text means these contents of a program.
abbrev pub TextMeans : List ℕ → Contents → Type 0
TextMeans text contents = LinesOfProgram (lines text) contents
