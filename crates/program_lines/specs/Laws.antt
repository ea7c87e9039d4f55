-- Laws of the grammar.
use Rattle.std.specs.Prelude.{◌≡◌, ◌≤◌, ◌⊎◌, ℕ, IsTrue, List, length}
use Rattle.std.specs.List.{All}
use Rattle.text_words.specs.declared.fault.Cause.{Cause}
use Rattle.text_words.specs.declared.fault.Cause.TheVariants.{TooMany}
use Rattle.program_lines.specs.Scopes.{NameScope, max_registers}
use Rattle.program_lines.specs.Grammar.{Item, ItemMeans}
use Rattle.text_words.specs.Text.{words, IsTextLine}
use Rattle.text_words.specs.Causes.{IsLowest}
use Rattle.trace_text.specs.Shapes.{is_numbered}
use Rattle.trace_text.specs.Printing.{spaced}
use Rattle.program_lines.specs.Faults.{WordsFault}
use Rattle.program_lines.specs.Printing.{item_words, scope_behind}

-- The words of a line say one thing at most.
abbrev pub OneMeaning : Type 0
OneMeaning =
    (at : ℕ) (scope : NameScope) (ws : List (List ℕ)) (item other : Item) →
    ItemMeans at scope ws item → ItemMeans at scope ws other → item ≡ other

-- The words of a line say something, or have a lowest cause why not. A function has no more registers than it may.
abbrev pub MeaningOrFault : Type 0
MeaningOrFault =
    (at : ℕ) (scope : NameScope) (ws : List (List ℕ)) → length scope.registers ≤ max_registers
    → ((item : Item) × ItemMeans at scope ws item) ⊎ ((why : Cause) × IsLowest (WordsFault scope ws) why)

-- Words that say something have no fault.
abbrev pub MeaningExcludesFault : Type 0
MeaningExcludesFault =
    (at : ℕ) (scope : NameScope) (ws : List (List ℕ)) (item : Item) (why : Cause) → ItemMeans at scope ws item → WordsFault scope ws why → ⊥

-- There is no room for a register only where all are known.
abbrev pub RoomForRegisters : Type 0
RoomForRegisters = (scope : NameScope) (ws : List (List ℕ)) → WordsFault scope ws TooMany → max_registers ≤ length scope.registers

-- What some words say in their scope, their plain words say: one space between them, no leading zeros. `more` are the registers that the
-- function names later. The memories are those of a text.
abbrev pub PlainMeaning : Type 0
PlainMeaning =
    (at : ℕ) (scope : NameScope) (ws more : List (List ℕ)) (item : Item) → IsTrue (is_numbered 0 scope.known.mems)
    → All (λ mem. 1 ≤ mem.cells) scope.known.mems → ItemMeans at scope ws item
    → IsTextLine (spaced (item_words (scope_behind scope item more) item))
    × ItemMeans at scope (words (spaced (item_words (scope_behind scope item more) item))) item
