-- The items that the code makes of lines.
use Rattle.std.specs.Prelude.{ℕ, Option, List, ◌∷◌, unwrap_or, is_some, Result, MatchResult}
use Rattle.text_words.specs.declared.fault.Cause.{Cause}
use Rattle.trace_text.specs.LineGrammar.{IsPlacedFault}
use Rattle.trace_text.specs.declared.keyword.Keyword.{Keyword}
use Rattle.trace_text.specs.declared.line.Item as code
use Rattle.trace_text.specs.declared.line.Item.TheVariants as code_item
use Rattle.model_accesses.specs.declared.kind.Kind.{Kind}
use Rattle.model_accesses.specs.declared.kind.Kind.TheVariants as kind
use Rattle.model_accesses.specs.declared.request.Act.{Act}
use Rattle.model_accesses.specs.declared.request.Act.TheVariants as act
use Rattle.text_words.specs.Values.{Known}
use Rattle.trace_text.specs.Lines.{Place, Cell, ReducerName, spelling, placed, wanted, optional}
use Rattle.trace_text.specs.Grammar.{Item, Blank, Declared, Reduces, Asked, ItemMeans}
use Rattle.trace_text.specs.Faults.{WordFault}

-- What the code's item says.
abbrev pub item_of : code.Item → Item
item_of code_item.Blank = Blank
item_of (code_item.Declared name length) = Declared name.now length
item_of (code_item.Reduces name monoid) = Reduces name.now monoid
item_of (code_item.Asked line) = Asked line

abbrev pub line_asked : ℕ → ℕ → Act → Option ℕ → Item
line_asked at strand act mark =
    Asked (record { at = at; request = record { strand = strand; act = act; line = unwrap_or mark at }; marked = is_some mark })

-- What an access of a kind is of.
abbrev pub place_of : Kind → Place
place_of kind.Update = ReducerName
place_of kind.Put = ReducerName
place_of kind.Get = ReducerName
place_of kind = Cell

-- The access of a kind, to which the value belongs where the kind has one.
abbrev pub access_of : Kind → ℕ → ℕ → Act
access_of kind.Write place value = act.Write place value
access_of kind.Bump place value = act.Bump place value
access_of kind.Read place value = act.Read place
access_of kind.Update place value = act.Update place value
access_of kind.Put place value = act.Put place value
access_of kind.Get place value = act.Get place

-- The answer is what the keyword and the words behind it say, or the lowest cause why they say nothing.
abbrev pub IsRead : ℕ → Known → Keyword → List (List ℕ) → Result code.Item Cause → Type 0
IsRead at known keyword words answer =
    MatchResult answer (λ item. ItemMeans at known (spelling keyword ∷ words) (item_of item))
    (λ cause. IsPlacedFault (WordFault known) (placed (wanted keyword) (optional keyword) words) cause)
