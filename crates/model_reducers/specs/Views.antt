-- How the values of a reducer combine, whatever a view is.
use Rattle.std.specs.Prelude.{ℕ, List, [], ◌∷◌}

-- what a reducer makes of views
pub record Reducer (View : Type 0) : Type 0 where
  -- two views, the serially earlier one on the left
  pub combine : View → View → View
  -- the view of a strand that has gathered nothing
  pub identity : View
  -- the view that an update of a value combines on the right
  pub of_update : ℕ → View
  -- the view that a put of a value leaves
  pub of_put : ℕ → View

-- the product of views in the order of the list
abbrev pub product : {View : Type 0} → Reducer View → List View → View
product reducer [] = reducer.identity
product reducer (view ∷ views) = reducer.combine view (product reducer views)
