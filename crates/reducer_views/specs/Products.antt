-- Which views are ones of a monoid, and that they are a monoid.
use Rattle.std.specs.Prelude.{ℕ, ◌^◌, ◌<◌}
use Rattle.model_reducers.specs.Products.{update_view, put_view, reducer_of}
use Rattle.model_reducers.specs.declared.monoid.Monoid.{Monoid}
use Rattle.model_reducers.specs.declared.monoid.Monoid.TheVariants.{Sum, Min, Max, Last, Digits}
use Rattle.law_values.specs.Views.{IsMonoidOn}
use Rattle.model_reducers.specs.declared.view.View.{View}
use Rattle.model_reducers.specs.declared.view.View.TheVariants.{Nothing, One, Pair}

-- the view is one of the monoid, and its numbers are below 2^64, as those of each view in hand are
abbrev pub FitsMonoid : Monoid → View → Type 0
FitsMonoid Last Nothing = Unit {0}
FitsMonoid Digits (Pair multiplier number) = (multiplier < 2 ^ 64) × (number < 2 ^ 64)
FitsMonoid Sum (One number) = number < 2 ^ 64
FitsMonoid Min (One number) = number < 2 ^ 64
FitsMonoid Max (One number) = number < 2 ^ 64
FitsMonoid Last (One number) = number < 2 ^ 64
FitsMonoid _ _ = ⊥

-- The views that fit a monoid are one with its product and its identity, and the views of updates and puts fit.
abbrev pub MonoidLaw : Type 0
MonoidLaw =
    (monoid : Monoid) → IsMonoidOn (FitsMonoid monoid) (reducer_of monoid) ×
    ((number : ℕ) → number < 2 ^ 64 → FitsMonoid monoid (update_view monoid number) × FitsMonoid monoid (put_view monoid number))
