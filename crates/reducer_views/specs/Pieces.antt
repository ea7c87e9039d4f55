-- What is kept of the strands, by their numbers.
use Rattle.std.specs.Prelude.{◌≡◌, ◌≢◌, ◌⊎◌, ◌+◌, ◌<◌, ◌≤◌, ℕ, Bool, true, false, List, []}
use Rattle.std.specs.Prelude.{◌∷◌, length, slice_index_or, map, Some, None, Contains}
use Rattle.model_reducers.specs.declared.monoid.Monoid.{Monoid}
use Rattle.model_reducers.specs.declared.view.View.{View}
use Rattle.reducer_views.specs.declared.pieces.Piece.{Piece}
use Rattle.reducer_views.specs.declared.pieces.Piece.TheVariants.{Untouched, Touched}
use Rattle.model_reducers.specs.Products.{product_of, monoid_of}
use Rattle.reducer_views.specs.declared.touched.Touch.{Touch}
use Rattle.reducer_views.specs.Touched.{Touches, Listed, look_up, listed_of, later_in, Changes, both, gathered, AreTouches}

-- of one strand: the strand under whose number its view is kept, the next continuation of a block, and the reducers that are touched there
pub record Kept : Type 0 where
  pub home : ℕ
  pub later : ℕ
  pub touches : Listed

abbrev pub kept_of : {A : Type 0} → Piece A → Kept
kept_of (Untouched home later) = record { home = home; later = later; touches = [] }
kept_of (Touched home slot) = record { home = home; later = later_in slot.value; touches = listed_of (Some slot) }

abbrev pub all_kept : {A : Type 0} → List (Piece A) → List Kept
all_kept pieces = map kept_of pieces

-- at first, of strand 0
abbrev pub first_kept : List Kept
first_kept = record { home = 0; later = 0; touches = [] } ∷ []

abbrev pub kept_at : List Kept → ℕ → Kept
kept_at strands strand = slice_index_or strands strand (record { home = 0; later = 0; touches = [] })

abbrev pub home_at : List Kept → ℕ → ℕ
home_at strands strand = (kept_at strands strand).home

abbrev pub later_at : List Kept → ℕ → ℕ
later_at strands strand = (kept_at strands strand).later

abbrev pub touches_at : List Kept → ℕ → Touches
touches_at strands strand = look_up (kept_at strands strand).touches

-- the view of a reducer that is kept under this number
abbrev pub view_in : List Monoid → List Kept → ℕ → ℕ → View
view_in monoids strands home reducer = gathered monoids (touches_at strands home) reducer

-- homes and later continuations are known, later ones have greater numbers, and what is touched fits
pub record AreKept (monoids : List Monoid) (strands : List Kept) : Type 0 where
  pub homes : (strand : ℕ) → home_at strands strand < length strands
  pub laters : (strand : ℕ) → later_at strands strand < length strands
  pub behind_home : (strand : ℕ) → 0 < later_at strands strand → home_at strands strand < later_at strands strand
  pub rising : (strand : ℕ) → 0 < later_at strands strand → 0 < later_at strands (later_at strands strand) →
      later_at strands strand < later_at strands (later_at strands strand)
  pub touched : (strand : ℕ) → AreTouches monoids (touches_at strands strand)

-- only what is touched differs
pub record SameHomes (old new : List Kept) : Type 0 where
  pub len : length new ≡ length old
  pub homes : (strand : ℕ) → home_at new strand ≡ home_at old strand
  pub laters : (strand : ℕ) → later_at new strand ≡ later_at old strand

-- only what is touched at this home differs: it is this
pub record WithTouches (old new : List Kept) (home : ℕ) (touches : Touches) : Type 0 where
  pub same : SameHomes old new
  pub changed : touches_at new home ≡ touches
  pub others : (strand : ℕ) → strand ≢ home → touches_at new strand ≡ touches_at old strand

-- what the later number has touched is combined on the right of what the home has
pub record TakesOver (old new : List Kept) (home later : ℕ) : Type 0 where
  pub same : SameHomes old new
  pub taken : (reducer : ℕ) → touches_at new home reducer ≡ both (touches_at old home reducer) (touches_at old later reducer)
  pub emptied : (reducer : ℕ) → touches_at new later reducer ≡ None
  pub others : (strand : ℕ) → strand ≢ home → strand ≢ later → touches_at new strand ≡ touches_at old strand

-- of this strand only the touch of the reducer differs: it is now this one
pub record SetsIn (old new : Kept) (reducer : ℕ) (touch : Touch) : Type 0 where
  pub home : new.home ≡ old.home
  pub later : new.later ≡ old.later
  pub touches : Changes (look_up old.touches) (look_up new.touches) reducer touch

-- the touch of the reducer at this home is now this one, and all others are as before
pub record SetsAt (old new : List Kept) (home reducer : ℕ) (touch : Touch) : Type 0 where
  pub same : SameHomes old new
  pub changed : touches_at new home reducer ≡ Some touch
  pub others : (strand other : ℕ) → (strand ≢ home) ⊎ (other ≢ reducer) → touches_at new strand other ≡ touches_at old strand other

-- the view of the reducer at this home is now this one, and all others are as before
pub record ChangesAt (monoids : List Monoid) (old new : List Kept) (home reducer : ℕ) (view : View) : Type 0 where
  pub same : SameHomes old new
  pub changed : view_in monoids new home reducer ≡ view
  pub others : (strand other : ℕ) → (strand ≢ home) ⊎ (other ≢ reducer) →
      view_in monoids new strand other ≡ view_in monoids old strand other

-- three numbers are added by a block's first spawn, and two by a later one
abbrev pub more_strands : Bool → ℕ
more_strands true = 3
more_strands false = 2

-- the new numbers are those behind the old ones: the child's, the next strand's and the join's
pub record Grown (old new : List Kept) (home : ℕ) (first : Bool) : Type 0 where
  pub len : length new ≡ more_strands first + length old
  pub child : (number : ℕ) → number ≡ length old → kept_at new number ≡ record { home = home; later = 0; touches = [] }
  pub next : (number : ℕ) → number ≡ 1 + length old → kept_at new number ≡ record { home = 1 + length old; later = 0; touches = [] }
  pub join : (number : ℕ) → first ≡ true → number ≡ 2 + length old →
      kept_at new number ≡ record { home = home; later = 1 + length old; touches = [] }
  pub beyond : (number : ℕ) → length new ≤ number → kept_at new number ≡ record { home = 0; later = 0; touches = [] }
  pub homes : (number : ℕ) → number < length old → home_at new number ≡ home_at old number
  pub touched : (number : ℕ) → number < length old → touches_at new number ≡ touches_at old number
  pub laters : (number : ℕ) → number < length old → (first ≡ false → number ≢ home) → later_at new number ≡ later_at old number
  pub tail : first ≡ false → later_at new home ≡ 1 + length old

-- from this number on the later numbers are these, and then none
abbrev pub AreLater : (ℕ → ℕ) → ℕ → List ℕ → Type 0
AreLater later first [] = first ≡ 0
AreLater later first (strand ∷ strands) = (first ≡ strand) × (0 < strand) × AreLater later (later strand) strands

-- the product of a view and further ones
abbrev pub product_from : Monoid → View → List View → View
product_from monoid view [] = view
product_from monoid view (later ∷ views) = product_from monoid (product_of monoid view later) views

-- the views under these numbers are combined at the home, and no other home is touched
pub record Combines (monoids : List Monoid) (old new : List Kept) (home : ℕ) (continuations : List ℕ) : Type 0 where
  pub views : (reducer : ℕ) → view_in monoids new home reducer ≡
      product_from (monoid_of monoids reducer) (view_in monoids old home reducer)
      (map (λ strand. view_in monoids old strand reducer) continuations)
  pub others : (strand : ℕ) → strand ≢ home → (Contains continuations strand → ⊥) → touches_at new strand ≡ touches_at old strand
