-- The reducers that a piece of the serial order has touched, each with its monoid and its view.
use Rattle.std.specs.Prelude.{◌≡◌, ◌≢◌, ℕ, ◌+◌, ◌-◌, ◌*◌, ◌/◌, ◌%◌, List, [], ◌∷◌, ◌++◌, map}
use Rattle.std.specs.Prelude.{Option, Some, None, ◌==◌, if◌then◌else◌, Box, slice_index_or}
use Rattle.model_reducers.specs.Products.{monoid_of, identity_of, product_of}
use Rattle.model_reducers.specs.declared.monoid.Monoid.{Monoid}
use Rattle.model_reducers.specs.declared.view.View.{View}
use Rattle.reducer_views.specs.declared.touched.Touch.{Touch}
use Rattle.reducer_views.specs.declared.touched.Row.{Row}
use Rattle.reducer_views.specs.declared.touched.Slot.{Slot, Slot', Held-Slot-odd, None', Some'}
use Rattle.reducer_views.specs.Products.{FitsMonoid}

-- what is touched, by the numbers of the reducers
abbrev pub Touches : Type 0
Touches = ℕ → Option Touch

-- no reducer
abbrev pub untouched : Touches
untouched = λ reducer. None

-- Reducer n is at place n % 4 of the row n / 4. A column is what one place of the rows holds, by the numbers of the rows.
abbrev pub Columns : Type 0
Columns = ℕ → Touches

-- the touch at this place of a row, which has four
abbrev pub touch_in : Row → ℕ → Option Touch
touch_in row place = slice_index_or row.touches place None

-- The row of number 0 is first. The others are those with odd numbers and those with even ones, both counted from 0 on.
abbrev pub spread : Option Touch → Touches → Touches → Touches
spread first odd even number =
    if number == 0 then first else (if number % 2 == 1 then odd ((number - 1) / 2) else even ((number - 1) / 2))

abbrev mutual
  pub column_from : {A : Type 0} → Slot A → Columns
  column_from (Slot' row odd even later) place = spread (touch_in row place) (column_behind odd place) (column_behind even place)

  pub column_behind : {A : Type 0} → Held-Slot-odd A → Columns
  column_behind None' place = untouched
  column_behind (Some' p slot) place = column_from slot place

abbrev pub column_of : {A : Type 0} → Option (Box (Slot A) A) → Columns
column_of None place = untouched
column_of (Some slot) place = column_from slot.value place

abbrev pub touches_of : {A : Type 0} → Option (Box (Slot A) A) → Touches
touches_of slots reducer = column_of slots (reducer % 4) (reducer / 4)

-- the same as a list of reducers with their touches

abbrev pub Listed : Type 0
Listed = List (ℕ × Touch)

-- the touch of a reducer, if it is listed
abbrev pub look_up : Listed → Touches
look_up [] reducer = None
look_up ((other, touch) ∷ rest) reducer = if other == reducer then Some touch else look_up rest reducer

abbrev pub alone : Option Touch → Listed
alone None = []
alone (Some touch) = (0, touch) ∷ []

abbrev pub spread_list : Option Touch → Listed → Listed → Listed
spread_list first odd even =
    alone first ++ (map (λ entry. (2 * entry.0 + 1, entry.1)) odd ++ map (λ entry. (2 * entry.0 + 2, entry.1)) even)

abbrev mutual
  pub listed_from : {A : Type 0} → Slot A → ℕ → Listed
  listed_from (Slot' row odd even later) place = spread_list (touch_in row place) (listed_behind odd place) (listed_behind even place)

  pub listed_behind : {A : Type 0} → Held-Slot-odd A → ℕ → Listed
  listed_behind None' place = []
  listed_behind (Some' p slot) place = listed_from slot place

-- a column's entries, by the reducers whose place it is
abbrev pub placed : ℕ → Listed → Listed
placed place entries = map (λ entry. (4 * entry.0 + place, entry.1)) entries

abbrev pub of_columns : (ℕ → Listed) → Listed
of_columns column = placed 0 (column 0) ++ (placed 1 (column 1) ++ (placed 2 (column 2) ++ placed 3 (column 3)))

abbrev pub listed_of : {A : Type 0} → Option (Box (Slot A) A) → Listed
listed_of None = []
listed_of (Some slot) = of_columns (listed_from slot.value)

-- the later continuation that the first slot of a piece's table keeps
abbrev pub later_in : {A : Type 0} → Slot A → ℕ
later_in (Slot' row odd even later) = later

-- only this reducer's touch differs: it is now this one
pub record Changes (old new : Touches) (reducer : ℕ) (touch : Touch) : Type 0 where
  pub changed : new reducer ≡ Some touch
  pub others : (other : ℕ) → other ≢ reducer → new other ≡ old other

-- only the touch at this place of this row differs: it is now this one
pub record ChangesPlace (old new : Columns) (number place : ℕ) (touch : Touch) : Type 0 where
  pub column : Changes (old place) (new place) number touch
  pub others : (other : ℕ) → other ≢ place → (row : ℕ) → new other row ≡ old other row

-- the serially earlier one on the left
abbrev pub combined : Touch → Touch → Touch
combined left right = record { monoid = left.monoid; view = product_of left.monoid left.view right.view }

-- a reducer that only one of them has touched keeps that touch
abbrev pub both : Option Touch → Option Touch → Option Touch
both (Some left) (Some right) = Some (combined left right)
both (Some left) None = Some left
both None right = right

-- a later touch behind the one that there may be
abbrev pub added : Option Touch → Touch → Touch
added None later = later
added (Some touch) later = combined touch later

-- the touched view, or else this one
abbrev pub view_or : View → Option Touch → View
view_or view None = view
view_or view (Some touch) = touch.view

-- the view of a reducer, which is the identity where it is not touched
abbrev pub gathered : List Monoid → Touches → ℕ → View
gathered monoids touches reducer = view_or (identity_of (monoid_of monoids reducer)) (touches reducer)

-- the touch is one of a reducer with this monoid
abbrev pub IsTouch : Monoid → Option Touch → Type 0
IsTouch monoid None = Unit {0}
IsTouch monoid (Some touch) = (touch.monoid ≡ monoid) × FitsMonoid monoid touch.view

abbrev pub AreTouches : List Monoid → Touches → Type 0
AreTouches monoids touches = (reducer : ℕ) → IsTouch (monoid_of monoids reducer) (touches reducer)
