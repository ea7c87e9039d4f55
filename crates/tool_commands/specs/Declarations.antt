-- Whether two texts declare the same.
use Rattle.std.specs.Prelude.{◌≡◌}
use Rattle.std.specs.List.{AllZip}
use Rattle.text_words.specs.declared.value.Mem.{Mem}
use Rattle.text_words.specs.declared.value.Reducer.{Reducer}
use Rattle.text_words.specs.Values.{Known}

-- the same name and as many cells, and both are arrays or neither is, on whatever lines they stand
pub record IsSameMem (one other : Mem) : Type 0 where
  pub name : one.name ≡ other.name
  pub cells : one.cells ≡ other.cells
  pub array : one.array ≡ other.array

pub record IsSameReducer (one other : Reducer) : Type 0 where
  pub name : one.name ≡ other.name
  pub monoid : one.monoid ≡ other.monoid

-- The memories are the same, one by one, and so are the reducers. The versions may differ, and how memories and reducers stand between each
-- other.
pub record DeclareSame (one other : Known) : Type 0 where
  pub mems : AllZip IsSameMem one.mems other.mems
  pub reducers : AllZip IsSameReducer one.reducers other.reducers
