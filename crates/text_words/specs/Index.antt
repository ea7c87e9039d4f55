-- The index of names, which finds what a name stands for.
use Rattle.std.specs.Prelude.{◌≡◌, ℕ, ◌+◌, ◌≤◌, cond, ◌⊎◌, Option, Some, None, List, length, slice_get, option_map}
use Rattle.std.specs.List.{All}
use Rattle.text_words.specs.declared.names.Named.{Named}
use Rattle.text_words.specs.declared.names.Named.TheVariants.{Single, Array, Reducer}
use Rattle.text_words.specs.declared.value.Mem.{Mem}
use Rattle.text_words.specs.Text.{IsName}
use Rattle.model_accesses.specs.Limits.{most_cells}
use Rattle.model_reducers.specs.Limits.{most_reducers}
use Rattle.text_words.specs.Values.{Known}
use Rattle.text_words.specs.Names.{memory_named, reducer_named}
use Rattle.text_words.specs.Declarations.{cells_of}
use Rattle.text_words.specs.Slots.{name_number}

-- its cells are among the most that a text has
abbrev pub IsInRange : Mem → Type 0
IsInRange mem = mem.first + mem.cells ≤ most_cells

abbrev pub name_of_memory : Mem → Named
name_of_memory mem = cond mem.array (Array mem.first mem.cells) (Single mem.first)

abbrev pub named_by : Option Mem → Option ℕ → Option Named
named_by (Some mem) reducer = Some (name_of_memory mem)
named_by None reducer = option_map Reducer reducer

-- what a name stands for
abbrev pub named : Known → List ℕ → Option Named
named known name = named_by (memory_named known.mems name) (reducer_named known.reducers name)

-- no name is that of a memory and of a reducer
abbrev pub IsApart : Known → List ℕ → Type 0
IsApart known name = (memory_named known.mems name ≡ None) ⊎ (reducer_named known.reducers name ≡ None)

-- what the name with that number stands for
abbrev pub meaning_at : List Named → Option ℕ → Option Named
meaning_at meanings None = None
meaning_at meanings (Some number) = slice_get meanings number

-- the index finds what each name stands for, what is found is a name, and the cells are counted
pub record IsIndexed (known : Known) (cells : ℕ) (names : List (List ℕ)) (meanings : List Named) : Type 0 where
  pub finds : (name : List ℕ) → meaning_at meanings (name_number names name) ≡ named known name
  pub paired : length names ≡ length meanings
  pub apart : (name : List ℕ) → IsApart known name
  pub named_only : (name : List ℕ) (found : Named) → named known name ≡ Some found → IsName name
  pub counted : cells ≡ cells_of known.mems
  pub few_cells : cells ≤ most_cells
  pub few_reducers : length known.reducers ≤ most_reducers
  pub in_range : All IsInRange known.mems
