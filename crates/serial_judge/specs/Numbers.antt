-- Lists that are numbered from 1 on.
use Rattle.std.specs.Prelude.{ℕ, zero, suc, List, Option, None}
use Rattle.std.specs.List.{slice_get}

abbrev pub numbered : {X : Type 0} → List X → ℕ → Option X
numbered items zero = None
numbered items (suc place) = slice_get items place
