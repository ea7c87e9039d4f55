-- The monoids of reducers, by their views.
use Rattle.std.specs.Prelude.{ℕ, ◌+◌, ◌-◌, ◌*◌, ◌%◌, ◌^◌, min, max, Option, Some, None, List, slice_index_or}
use Rattle.model_reducers.specs.declared.monoid.Monoid.{Monoid}
use Rattle.model_reducers.specs.declared.monoid.Monoid.TheVariants.{Sum, Min, Max, Last, Digits}
use Rattle.model_reducers.specs.Views.{Reducer}
use Rattle.model_reducers.specs.declared.view.View.{View}
use Rattle.model_reducers.specs.declared.view.View.TheVariants.{Nothing, One, Pair}

-- what of a number is left in 64 bits
abbrev pub wrapped : ℕ → ℕ
wrapped n = n % 2 ^ 64

-- the view of a strand that has gathered nothing
abbrev pub identity_of : Monoid → View
identity_of Sum = One 0
identity_of Min = One (2 ^ 64 - 1)
identity_of Max = One 0
identity_of Last = Nothing
identity_of Digits = Pair 1 0

-- the view that an update combines on the right
abbrev pub update_view : Monoid → ℕ → View
update_view Digits number = Pair 31 number
update_view _ number = One number

-- the view that a put leaves
abbrev pub put_view : Monoid → ℕ → View
put_view Digits number = Pair 1 number
put_view _ number = One number

-- the product of two views of the monoid, the serially earlier one on the left
abbrev pub product_of : Monoid → View → View → View
product_of Sum (One left) (One right) = One (wrapped (left + right))
product_of Min (One left) (One right) = One (min left right)
product_of Max (One left) (One right) = One (max left right)
product_of Digits (Pair left_multiplier left) (Pair multiplier right) =
    Pair (wrapped (left_multiplier * multiplier)) (wrapped (left * multiplier + right))
product_of _ left Nothing = left
product_of _ left right = right

-- what a get gives
abbrev pub view_number : View → Option ℕ
view_number Nothing = None
view_number (One number) = Some number
view_number (Pair multiplier number) = Some number

-- what a reducer with this monoid makes of views
abbrev pub reducer_of : Monoid → Reducer View
reducer_of monoid = record {
  combine = product_of monoid;
  identity = identity_of monoid;
  of_update = update_view monoid;
  of_put = put_view monoid;
}

abbrev pub monoid_of : List Monoid → ℕ → Monoid
monoid_of monoids reducer = slice_index_or monoids reducer Sum
