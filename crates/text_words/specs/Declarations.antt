-- What a declaration adds to those that are known.
use Rattle.std.specs.Prelude.{ℕ, Option, List, [], ◌∷◌, ◌++◌, unwrap_or, is_some}
use Rattle.std.specs.List.{sum_by}
use Rattle.model_reducers.specs.declared.monoid.Monoid.{Monoid}
use Rattle.text_words.specs.declared.value.Mem.{Mem}
use Rattle.text_words.specs.declared.value.Reducer.{Reducer}
use Rattle.text_words.specs.Values.{Known}

abbrev pub cells_of : List Mem → ℕ
cells_of mems = sum_by (λ mem. mem.cells) mems

-- The memory that the line with the number `at` declares, whose first cell has this number.
abbrev pub memory_from : ℕ → ℕ → List ℕ → Option ℕ → Mem
memory_from at first name length = record { name = name; cells = unwrap_or length 1; array = is_some length; first = first; line = at }

-- The same behind these memories.
abbrev pub memory_at : ℕ → List Mem → List ℕ → Option ℕ → Mem
memory_at at mems name length = memory_from at (cells_of mems) name length

abbrev pub reducer_at : ℕ → List ℕ → Monoid → Reducer
reducer_at at name monoid = record { name = name; monoid = monoid; line = at }

abbrev pub with_memory : ℕ → Known → List ℕ → Option ℕ → Known
with_memory at known name length = record known { mems = known.mems ++ memory_at at known.mems name length ∷ [] }

abbrev pub with_reducer : ℕ → Known → List ℕ → Monoid → Known
with_reducer at known name monoid = record known { reducers = known.reducers ++ reducer_at at name monoid ∷ [] }
