-- Tables of touches: where a row stands, and what two of them make.
use Rattle.std.proofs.Common.{◌≡◌, ◌≢◌, inl, inr, ℕ, ◌-◌, ◌/◌, ◌%◌, List, Option, Some, None, refl, sym, ap, ap₂, ◌∙◌, subst, arith}
use Rattle.std.proofs.lemmas.Bool.Decides.{eqb_tells}
use Rattle.model_reducers.specs.declared.monoid.Monoid.{Monoid}
use Rattle.reducer_views.specs.declared.touched.Touch.{Touch}
use Rattle.reducer_views.specs.declared.touched.Row.{Row}
use Rattle.reducer_views.specs.Products.{FitsMonoid}
use Rattle.model_reducers.specs.Products.{identity_of, product_of, monoid_of}
use Rattle.reducer_views.specs.Touched.{Touches, Columns, touch_in, spread, Changes, ChangesPlace, both, added, view_or, gathered, IsTouch, AreTouches}
use Rattle.reducer_views.proofs.Associative.{product_of-fits, identity-left, identity-right, identity_of-fits}

pub spread_first : (first : Option Touch) (odd even : Touches) (number : ℕ) → number ≡ 0 → spread first odd even number ≡ first
spread_first first odd even number e = elim (eqb_tells number 0) [ inl t ↦ rw t.0 refl | inr t ↦ absurd (t.1 e) ]

pub spread_odd : (first : Option Touch) (odd even : Touches) (number : ℕ) → number ≢ 0 → number % 2 ≡ 1 → spread first odd even number ≡ odd ((number - 1) / 2)
spread_odd first odd even number ne e = elim (eqb_tells number 0) [
  | inl t ↦ absurd (ne t.1)
  | inr t ↦ rw t.0 (elim (eqb_tells (number % 2) 1) [ inl u ↦ rw u.0 refl | inr u ↦ absurd (u.1 e) ])
]

pub spread_even : (first : Option Touch) (odd even : Touches) (number : ℕ) → number ≢ 0 → number % 2 ≢ 1 → spread first odd even number ≡ even ((number - 1) / 2)
spread_even first odd even number ne e = elim (eqb_tells number 0) [
  | inl t ↦ absurd (ne t.1)
  | inr t ↦ rw t.0 (elim (eqb_tells (number % 2) 1) [ inl u ↦ absurd (e u.1) | inr u ↦ rw u.0 refl ])
]

-- a row is the first, or one with an odd number, or one with an even number
pub data Way (number : ℕ) : Type 0 where
  is_first : number ≡ 0 → Way number
  is_odd : number ≢ 0 → number % 2 ≡ 1 → Way number
  is_even : number ≢ 0 → number % 2 ≢ 1 → Way number

pub way : (number : ℕ) → Way number
way number = elim (eqb_tells number 0) [
  | inl t ↦ is_first t.1
  | inr t ↦ elim (eqb_tells (number % 2) 1) [ inl u ↦ is_odd t.1 u.1 | inr u ↦ is_even t.1 u.1 ]
]

-- two tables are combined by their parts
pub spread_both : (first first' first'' : Option Touch) (odd odd' odd'' even even' even'' : Touches) → first'' ≡ both first first' →
    ((number : ℕ) → odd'' number ≡ both (odd number) (odd' number)) → ((number : ℕ) → even'' number ≡ both (even number) (even' number)) →
    (number : ℕ) → spread first'' odd'' even'' number ≡ both (spread first odd even number) (spread first' odd' even' number)
spread_both first first' first'' odd odd' odd'' even even' even'' a b c number = elim (way number) [
  | is_first e ↦ spread_first first'' odd'' even'' number e ∙ (a ∙ sym (ap₂ both (spread_first first odd even number e) (spread_first first' odd' even' number e)))
  | is_odd ne e ↦ spread_odd first'' odd'' even'' number ne e ∙ (b ((number - 1) / 2) ∙ sym (ap₂ both (spread_odd first odd even number ne e) (spread_odd first' odd' even' number ne e)))
  | is_even ne e ↦ spread_even first'' odd'' even'' number ne e ∙ (c ((number - 1) / 2) ∙ sym (ap₂ both (spread_even first odd even number ne e) (spread_even first' odd' even' number ne e)))
]

-- what agrees by its parts agrees
pub spread_alike : (first first' : Option Touch) (odd odd' even even' : Touches) → first ≡ first' → ((number : ℕ) → odd number ≡ odd' number) →
    ((number : ℕ) → even number ≡ even' number) → (number : ℕ) → spread first odd even number ≡ spread first' odd' even' number
spread_alike first first' odd odd' even even' a b c number = elim (way number) [
  | is_first e ↦ spread_first first odd even number e ∙ (a ∙ sym (spread_first first' odd' even' number e))
  | is_odd ne o ↦ spread_odd first odd even number ne o ∙ (b ((number - 1) / 2) ∙ sym (spread_odd first' odd' even' number ne o))
  | is_even ne o ↦ spread_even first odd even number ne o ∙ (c ((number - 1) / 2) ∙ sym (spread_even first' odd' even' number ne o))
]

-- one touch of a column changes, by the part where it stands
pub changes_first : (first first' : Option Touch) (odd even : Touches) (number : ℕ) (touch : Touch) → number ≡ 0 → first' ≡ Some touch →
    Changes (spread first odd even) (spread first' odd even) number touch
changes_first first first' odd even number touch e now = record {
  changed = spread_first first' odd even number e ∙ now;
  others = λ other ne. elim (way other) [
    | is_first z ↦ absurd (ne (z ∙ sym e))
    | is_odd nz z ↦ spread_odd first' odd even other nz z ∙ sym (spread_odd first odd even other nz z)
    | is_even nz z ↦ spread_even first' odd even other nz z ∙ sym (spread_even first odd even other nz z)
  ];
}

halves_odd : (x y : ℕ) → x ≢ 0 → y ≢ 0 → x % 2 ≡ 1 → y % 2 ≡ 1 → (x - 1) / 2 ≡ (y - 1) / 2 → x ≡ y
halves_odd x y nx ny a b e = omega arith

halves_even : (x y : ℕ) → x ≢ 0 → y ≢ 0 → (x % 2 ≡ 1 → ⊥) → (y % 2 ≡ 1 → ⊥) → (x - 1) / 2 ≡ (y - 1) / 2 → x ≡ y
halves_even x y nx ny a b e = omega arith

pub changes_odd : (first : Option Touch) (odd odd' even : Touches) (number : ℕ) (touch : Touch) → number ≢ 0 → number % 2 ≡ 1 → Changes odd odd' ((number - 1) / 2) touch →
    Changes (spread first odd even) (spread first odd' even) number touch
changes_odd first odd odd' even number touch nr o change = record {
  changed = spread_odd first odd' even number nr o ∙ change.changed;
  others = λ other ne. elim (way other) [
    | is_first z ↦ spread_first first odd' even other z ∙ sym (spread_first first odd even other z)
    | is_odd nz z ↦ spread_odd first odd' even other nz z ∙ (change.others ((other - 1) / 2) (λ e. ne (halves_odd other number nz nr z o e)) ∙ sym (spread_odd first odd even other nz z))
    | is_even nz z ↦ spread_even first odd' even other nz z ∙ sym (spread_even first odd even other nz z)
  ];
}

pub changes_even : (first : Option Touch) (odd even even' : Touches) (number : ℕ) (touch : Touch) → number ≢ 0 → number % 2 ≢ 1 → Changes even even' ((number - 1) / 2) touch →
    Changes (spread first odd even) (spread first odd even') number touch
changes_even first odd even even' number touch nr o change = record {
  changed = spread_even first odd even' number nr o ∙ change.changed;
  others = λ other ne. elim (way other) [
    | is_first z ↦ spread_first first odd even' other z ∙ sym (spread_first first odd even other z)
    | is_odd nz z ↦ spread_odd first odd even' other nz z ∙ sym (spread_odd first odd even other nz z)
    | is_even nz z ↦ spread_even first odd even' other nz z ∙ (change.others ((other - 1) / 2) (λ e. ne (halves_even other number nz nr z o e)) ∙ sym (spread_even first odd even other nz z))
  ];
}

-- A row and the columns behind it

abbrev pub columns : Row → Columns → Columns → Columns
columns row odd even place = spread (touch_in row place) (odd place) (even place)

pub place_first : (row row' : Row) (odd even : Columns) (number place : ℕ) (touch : Touch) → number ≡ 0 → Changes (touch_in row) (touch_in row') place touch →
    ChangesPlace (columns row odd even) (columns row' odd even) number place touch
place_first row row' odd even number place touch e change = record {
  column = changes_first (touch_in row place) (touch_in row' place) (odd place) (even place) number touch e change.changed;
  others = λ other ne. spread_alike (touch_in row' other) (touch_in row other) (odd other) (odd other) (even other) (even other) (change.others other ne) (λ n. refl) (λ n. refl);
}

pub place_odd : (row : Row) (odd odd' even : Columns) (number place : ℕ) (touch : Touch) → number ≢ 0 → number % 2 ≡ 1 → ChangesPlace odd odd' ((number - 1) / 2) place touch →
    ChangesPlace (columns row odd even) (columns row odd' even) number place touch
place_odd row odd odd' even number place touch ne o change = record {
  column = changes_odd (touch_in row place) (odd place) (odd' place) (even place) number touch ne o change.column;
  others = λ other nq. spread_alike (touch_in row other) (touch_in row other) (odd' other) (odd other) (even other) (even other) refl (change.others other nq) (λ n. refl);
}

pub place_even : (row : Row) (odd even even' : Columns) (number place : ℕ) (touch : Touch) → number ≢ 0 → number % 2 ≢ 1 → ChangesPlace even even' ((number - 1) / 2) place touch →
    ChangesPlace (columns row odd even) (columns row odd even') number place touch
place_even row odd even even' number place touch ne o change = record {
  column = changes_even (touch_in row place) (odd place) (even place) (even' place) number touch ne o change.column;
  others = λ other nq. spread_alike (touch_in row other) (touch_in row other) (odd other) (odd other) (even' other) (even other) refl (λ n. refl) (change.others other nq);
}

-- Touches of reducers with these monoids

pub gathered_fits : (monoids : List Monoid) (touches : Touches) (reducer : ℕ) → AreTouches monoids touches → FitsMonoid (monoid_of monoids reducer) (gathered monoids touches reducer)
gathered_fits monoids touches reducer sound = go (touches reducer) (sound reducer)
  where
    go : (found : Option Touch) → IsTouch (monoid_of monoids reducer) found → FitsMonoid (monoid_of monoids reducer) (view_or (identity_of (monoid_of monoids reducer)) found)
    go None fits = identity_of-fits (monoid_of monoids reducer)
    go (Some touch) fits = fits.1

pub both_touch : (monoid : Monoid) (left right : Option Touch) → IsTouch monoid left → IsTouch monoid right → IsTouch monoid (both left right)
both_touch monoid None right a b = b
both_touch monoid (Some left) None a b = a
both_touch monoid (Some left) (Some right) a b =
    (a.0, subst (λ m. FitsMonoid monoid (product_of m left.view right.view)) (sym a.0) (product_of-fits monoid left.view right.view a.1 b.1))

pub both_view : (monoid : Monoid) (left right : Option Touch) → IsTouch monoid left → IsTouch monoid right →
    view_or (identity_of monoid) (both left right) ≡ product_of monoid (view_or (identity_of monoid) left) (view_or (identity_of monoid) right)
both_view monoid None None a b = sym (identity-left monoid (identity_of monoid) (identity_of-fits monoid))
both_view monoid None (Some right) a b = sym (identity-left monoid right.view b.1)
both_view monoid (Some left) None a b = sym (identity-right monoid left.view a.1)
both_view monoid (Some left) (Some right) a b = ap (λ m. product_of m left.view right.view) a.0

pub added_touch : (monoid : Monoid) (left : Option Touch) (right : Touch) → IsTouch monoid left → IsTouch monoid (Some right) → IsTouch monoid (Some (added left right))
added_touch monoid None right a b = b
added_touch monoid (Some left) right a b = both_touch monoid (Some left) (Some right) a b

pub added_view : (monoid : Monoid) (left : Option Touch) (right : Touch) → IsTouch monoid left → IsTouch monoid (Some right) →
    (added left right).view ≡ product_of monoid (view_or (identity_of monoid) left) right.view
added_view monoid None right a b = sym (identity-left monoid right.view b.1)
added_view monoid (Some left) right a b = ap (λ m. product_of m left.view right.view) a.0
