-- What was read: the declarations that are known, and the requests behind them.
use Rattle.std.specs.Prelude.{ℕ, List, codes}
use Rattle.text_words.specs.declared.value.Version.{Version}
use Rattle.text_words.specs.declared.value.Version.TheVariants.{One, Two}
use Rattle.model_reducers.specs.declared.monoid.Monoid.{Monoid}
use Rattle.model_reducers.specs.declared.monoid.Monoid.TheVariants.{Sum, Min, Max, Last, Digits}
use Rattle.text_words.specs.declared.value.Mem.{Mem}
use Rattle.text_words.specs.declared.value.Reducer.{Reducer}
use Rattle.text_words.specs.declared.value.TraceLine.{TraceLine}

-- The version of a text and its declarations, in their order.
pub record Known : Type 0 where
  pub version : Version
  pub mems : List Mem
  pub reducers : List Reducer

-- What a trace holds.
pub record Contents : Type 0 where
  pub known : Known
  pub lines : List TraceLine

abbrev pub version_spelling : Version → List ℕ
version_spelling One = codes "1"
version_spelling Two = codes "2"

abbrev pub monoid_spelling : Monoid → List ℕ
monoid_spelling Sum = codes "sum"
monoid_spelling Min = codes "min"
monoid_spelling Max = codes "max"
monoid_spelling Last = codes "last"
monoid_spelling Digits = codes "digits"
