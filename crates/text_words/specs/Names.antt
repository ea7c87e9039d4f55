-- What a name or a word with an index stands for, behind the declarations.
use Rattle.std.specs.Prelude.{◌≡◌, ℕ, ◌+◌, ◌<◌, Bool, true, false, ◌⊎◌, Option, None, Some, List, ◌++◌, codes}
use Rattle.std.specs.List.{find, position_from}
use Rattle.std.specs.Str.{bytes_eq}
use Rattle.text_words.specs.declared.value.Version.{Version}
use Rattle.text_words.specs.declared.value.Version.TheVariants.{One, Two}
use Rattle.model_reducers.specs.declared.monoid.Monoid.{Monoid}
use Rattle.model_reducers.specs.declared.monoid.Monoid.TheVariants.{Digits}
use Rattle.text_words.specs.declared.value.Mem.{Mem}
use Rattle.text_words.specs.declared.value.Reducer.{Reducer}
use Rattle.text_words.specs.Text.{IsName, IsNumberIn}
use Rattle.text_words.specs.Limits.{max_value}
use Rattle.text_words.specs.Values.{Known, monoid_spelling}

-- The memory of that name.
abbrev pub memory_named : List Mem → List ℕ → Option Mem
memory_named mems name = find (λ mem. bytes_eq name mem.name) mems

-- The number of the reducer of that name; they are numbered from 0.
abbrev pub reducer_named : List Reducer → List ℕ → Option ℕ
reducer_named reducers name = position_from (λ reducer. bytes_eq name reducer.name) 0 reducers

-- Memories and reducers share one space of names, and this name is none of theirs.
abbrev pub IsFresh : Known → List ℕ → Type 0
IsFresh known name = (memory_named known.mems name ≡ None) × (reducer_named known.reducers name ≡ None)

-- It is the name of a memory, which is an array or not.
abbrev pub IsDeclared : List Mem → List ℕ → Bool → Mem → Type 0
IsDeclared mems name array mem = (memory_named mems name ≡ Some mem) × (mem.array ≡ array)

abbrev pub element_word : List ℕ → List ℕ → List ℕ
element_word name index = name ++ codes "[" ++ index ++ codes "]"

-- The name of a memory of one cell names that cell.
abbrev pub SingleMeans : List Mem → List ℕ → ℕ → Type 0
SingleMeans mems name cell = IsName name × (mem : Mem) × IsDeclared mems name false mem × (cell ≡ mem.first)

-- The name of an array and an index below its length name a cell of it.
abbrev pub ElementMeans : List Mem → List ℕ → List ℕ → ℕ → Type 0
ElementMeans mems name index cell =
    IsName name × (mem : Mem) × (i : ℕ) × IsDeclared mems name true mem
    × IsNumberIn 0 max_value index i × (i < mem.cells) × (cell ≡ mem.first + i)

abbrev pub CellMeans : List Mem → List ℕ → ℕ → Type 0
CellMeans mems word cell =
    SingleMeans mems word cell ⊎ ((name : List ℕ) × (index : List ℕ) × (word ≡ element_word name index) × ElementMeans mems name index cell)

abbrev pub IsSecond : Version → Type 0
IsSecond One = ⊥
IsSecond Two = Unit {0}

-- Version 2 has all monoids, version 1 all but `digits`.
abbrev pub HasMonoid : Version → Monoid → Type 0
HasMonoid version Digits = IsSecond version
HasMonoid version monoid = Unit {0}

abbrev pub MonoidMeans : Version → List ℕ → Monoid → Type 0
MonoidMeans version word monoid = HasMonoid version monoid × (word ≡ monoid_spelling monoid)
