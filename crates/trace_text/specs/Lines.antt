-- The table of lines: what each keyword wants behind it, and what the words of a line mean in their places.
use Rattle.std.specs.Prelude.{◌≡◌, ℕ, ◌++◌, Bool, true, false, Option, Some, None, List, [], ◌∷◌, codes}
use Rattle.std.specs.Option.{option_to_list}
use Rattle.model_accesses.specs.declared.kind.Kind.TheVariants as kind
use Rattle.model_accesses.specs.Table.{spelling as kind_spelling}
use Rattle.text_words.specs.declared.value.Version.{Version}
use Rattle.model_reducers.specs.declared.monoid.Monoid.{Monoid}
use Rattle.model_accesses.specs.declared.request.Act.{Act}
use Rattle.model_accesses.specs.declared.request.Act.TheVariants as act
use Rattle.trace_text.specs.LineGrammar as line
use Rattle.trace_text.specs.LineGrammar.{Table}
use Rattle.trace_text.specs.declared.keyword.Keyword.{Keyword}
use Rattle.trace_text.specs.declared.keyword.Keyword.TheVariants.{Mem as MemWord, Reducer as ReducerWord, Spawn, Call, Sync, Return, Access}
use Rattle.text_words.specs.Text.{IsName, IsNumberIn}
use Rattle.model_accesses.specs.Limits.{most_cells}
use Rattle.text_words.specs.Limits.{max_strand, max_value}
use Rattle.text_words.specs.Values.{Known}
use Rattle.text_words.specs.Names.{IsSecond, CellMeans, reducer_named, IsFresh, MonoidMeans}

-- ---- keywords

abbrev pub spelling : Keyword → List ℕ
spelling MemWord = codes "mem"
spelling ReducerWord = codes "reducer"
spelling Spawn = codes "spawn"
spelling Call = codes "call"
spelling Sync = codes "sync"
spelling Return = codes "return"
spelling (Access kind) = kind_spelling kind

-- Version 2 has all keywords, version 1 all but `bump`.
abbrev pub HasKeyword : Version → Keyword → Type 0
HasKeyword version (Access kind.Bump) = IsSecond version
HasKeyword version keyword = Unit {0}

abbrev pub declares : Keyword → Bool
declares MemWord = true
declares ReducerWord = true
declares keyword = false

-- The keyword of an act.
abbrev pub asks : Act → Keyword
asks act.Spawn = Spawn
asks act.Sync = Sync
asks act.Call = Call
asks act.Return = Return
asks (act.Read cell) = Access kind.Read
asks (act.Write cell value) = Access kind.Write
asks (act.Bump cell value) = Access kind.Bump
asks (act.Update reducer value) = Access kind.Update
asks (act.Put reducer value) = Access kind.Put
asks (act.Get reducer) = Access kind.Get

-- The requests without operands.
abbrev pub IsControl : Act → Type 0
IsControl act.Spawn = Unit {0}
IsControl act.Sync = Unit {0}
IsControl act.Call = Unit {0}
IsControl act.Return = Unit {0}
IsControl act = ⊥

-- ---- places

-- What a place of a line wants.
pub data Place : Type 0 where
  FreshName : Place
  Number : (low high : ℕ) → Place
  Cell : Place
  ReducerName : Place
  MonoidWord : Place
  Mark : Place

abbrev pub a_strand : Place
a_strand = Number 0 max_strand

abbrev pub a_value : Place
a_value = Number 0 max_value

-- What a line wants behind its keyword.
abbrev pub wanted : Keyword → List Place
wanted MemWord = FreshName ∷ []
wanted ReducerWord = FreshName ∷ MonoidWord ∷ []
wanted (Access kind.Write) = a_strand ∷ Cell ∷ a_value ∷ []
wanted (Access kind.Bump) = a_strand ∷ Cell ∷ a_value ∷ []
wanted (Access kind.Read) = a_strand ∷ Cell ∷ []
wanted (Access kind.Update) = a_strand ∷ ReducerName ∷ a_value ∷ []
wanted (Access kind.Put) = a_strand ∷ ReducerName ∷ a_value ∷ []
wanted (Access kind.Get) = a_strand ∷ ReducerName ∷ []
wanted keyword = a_strand ∷ []

-- What may stand at its end.
abbrev pub optional : Keyword → Option Place
optional MemWord = Some (Number 1 most_cells)
optional ReducerWord = None
optional keyword = Some Mark

-- The table of keywords, and words in the places of a line, of which the last may be left out.
abbrev pub table : Table Keyword Place
table = record { spelling = spelling; HasKeyword = HasKeyword; wanted = wanted; optional = λ keyword. option_to_list (optional keyword) }

abbrev pub Placed : Type 0
Placed = line.Placed Place

abbrev pub placed : List Place → Option Place → List (List ℕ) → Option (List Placed)
placed places last words = line.placed places (option_to_list last) words

-- ---- meanings

-- What a word means in its place: a name, a number (of a strand, a value, a cell, a reducer or a line), or a monoid.
pub data Value : Type 0 where
  OfName : (name : List ℕ) → Value
  OfNumber : (number : ℕ) → Value
  OfMonoid : (monoid : Monoid) → Value

abbrev pub WordMeans : Known → Place → List ℕ → Value → Type 0
WordMeans known FreshName word (OfName name) = (name ≡ word) × IsName word × IsFresh known word
WordMeans known (Number low high) word (OfNumber number) = IsNumberIn low high word number
WordMeans known Cell word (OfNumber cell) = CellMeans known.mems word cell
WordMeans known ReducerName word (OfNumber reducer) = IsName word × (reducer_named known.reducers word ≡ Some reducer)
WordMeans known MonoidWord word (OfMonoid monoid) = MonoidMeans known.version word monoid
WordMeans known Mark word (OfNumber line) = (digits : List ℕ) × (word ≡ codes "@" ++ digits) × IsNumberIn 1 max_strand digits line
WordMeans known place word value = ⊥

-- Each word means its value.
abbrev pub WordsMean : Known → List Placed → List Value → Type 0
WordsMean known = line.WordsMean (WordMeans known)

-- The words are a keyword and words that mean these values in the places that it wants.
abbrev pub Says : Known → List (List ℕ) → Keyword → List Value → Type 0
Says known = line.Says (WordMeans known) table known.version

abbrev pub operands : Act → List Value
operands (act.Read cell) = OfNumber cell ∷ []
operands (act.Write cell value) = OfNumber cell ∷ OfNumber value ∷ []
operands (act.Bump cell value) = OfNumber cell ∷ OfNumber value ∷ []
operands (act.Update reducer value) = OfNumber reducer ∷ OfNumber value ∷ []
operands (act.Put reducer value) = OfNumber reducer ∷ OfNumber value ∷ []
operands (act.Get reducer) = OfNumber reducer ∷ []
operands act = []

-- An optional number.
abbrev pub if_there : Option ℕ → List Value
if_there None = []
if_there (Some number) = OfNumber number ∷ []
