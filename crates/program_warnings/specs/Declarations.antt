-- What declares a name.
use Rattle.std.specs.Prelude.{ℕ, List, Option, option_map}
use Rattle.std.specs.List.{find}
use Rattle.std.specs.Option.{option_or}
use Rattle.std.specs.Str.{bytes_eq}
use Rattle.std.specs.Ordering.{nat_cmp}
use Rattle.std.specs.Cmp.Lexicographic.{slice_cmp}
use Rattle.std.specs.BTreeMap.{BTreeMap, get_by}
use Rattle.text_words.specs.declared.value.Mem.{Mem}
use Rattle.text_words.specs.declared.value.Reducer.{Reducer}
use Rattle.program_warnings.specs.declared.declarations.Declared.{Declared}
use Rattle.program_warnings.specs.declared.declarations.Sort.TheVariants as sort
use denote.Ref.{Bor}

abbrev pub of_memory : Mem → Declared
of_memory mem = record { sort = sort.Memory; line = mem.line }

abbrev pub of_reducer : Reducer → Declared
of_reducer reducer = record { sort = sort.Reducer; line = reducer.line }

-- the memory of that name, and the reducer
abbrev pub memory_declared : List Mem → List ℕ → Option Declared
memory_declared mems name = option_map of_memory (find (λ mem. bytes_eq name mem.name) mems)

abbrev pub reducer_declared : List Reducer → List ℕ → Option Declared
reducer_declared reducers name = option_map of_reducer (find (λ reducer. bytes_eq name reducer.name) reducers)

-- what declares the name
abbrev pub declared_in : List Mem → List Reducer → List ℕ → Option Declared
declared_in mems reducers name = option_or (memory_declared mems name) (reducer_declared reducers name)

-- what is stored under the name
abbrev pub stored_at : BTreeMap (Bor (List ℕ)) Declared → List ℕ → Option Declared
stored_at names name = get_by (λ (key : Bor (List ℕ)). slice_cmp nat_cmp name key.now) names
