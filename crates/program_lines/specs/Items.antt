-- The items that the code makes of lines.
use Rattle.std.specs.Prelude.{ℕ, List, ◌∷◌, Result, MatchResult, option_copied}
use Rattle.text_words.specs.declared.fault.Cause.{Cause}
use Rattle.trace_text.specs.LineGrammar.{IsPlacedFault}
use Rattle.program_lines.specs.declared.keyword.Keyword.{Keyword}
use Rattle.program_lines.specs.declared.keyword.Keyword.TheVariants.{Reducer, Func, Access, Spawn, Call}
use Rattle.program_lines.specs.declared.item.Item as code
use Rattle.program_lines.specs.declared.item.Item.TheVariants as code_item
use Rattle.program_lines.specs.Scopes.{NameScope}
use Rattle.program_lines.specs.Table.{spelling, placed, wanted, optional}
use Rattle.program_lines.specs.Grammar.{Item, Blank, Declared, Reduces, Begins, Does, Decides, Otherwise, Ends, ItemMeans}
use Rattle.program_lines.specs.Faults.{WordFault}

-- What the code's item says.
abbrev pub item_of : code.Item → Item
item_of code_item.Blank = Blank
item_of (code_item.Declared name length) = Declared name.now length
item_of (code_item.Reduces name monoid) = Reduces name.now monoid
item_of (code_item.Begins name parameter) = Begins name.now parameter.now
item_of (code_item.Does statement named) = Does statement (option_copied named)
item_of (code_item.Decides register) = Decides register
item_of code_item.Otherwise = Otherwise
item_of code_item.Ends = Ends

-- The answer is what the keyword and the words behind it say, or the lowest cause why they say nothing.
abbrev pub IsRead : ℕ → NameScope → Keyword → List (List ℕ) → Result code.Item Cause → Type 0
IsRead at scope keyword words answer =
    MatchResult answer (λ item. ItemMeans at scope (spelling keyword ∷ words) (item_of item))
    (λ cause. IsPlacedFault (WordFault scope) (placed (wanted keyword) (optional keyword) words) cause)

-- A line with this keyword takes two words behind it, whatever they say.
abbrev pub TakesTwo : Keyword → Type 0
TakesTwo Reducer = Unit {0}
TakesTwo Func = Unit {0}
TakesTwo (Access kind) = Unit {0}
TakesTwo Spawn = Unit {0}
TakesTwo Call = Unit {0}
TakesTwo keyword = ⊥
