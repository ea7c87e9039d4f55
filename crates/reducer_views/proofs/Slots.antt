-- A slot and the tables behind it.
use Rattle.std.proofs.Common.{◌≡◌, ◌≢◌, ℕ, ◌+◌, ◌-◌, ◌*◌, ◌/◌, ◌%◌, ◌^◌, ◌<◌, ◌≤◌, suc, zero, inl, inr, Bool, true, false, IsTrue, Option, Some, None, Box, refl, sym, ap, ap₂, ◌∙◌, subst, arith, lit<}
use Rattle.std.proofs.Math.Nat.{pow-le-pow_right, pow-succ'}
use Rattle.std.proofs.lemmas.Bool.Decides.{eqb_tells}
use Rattle.reducer_views.specs.declared.touched.Touch.{Touch}
use Rattle.reducer_views.specs.declared.touched.Row.{Row}
use Rattle.reducer_views.specs.declared.touched.Slot.{Slot, Slot', None', Some', out-Slot, roll-Slot}
use Rattle.reducer_views.specs.Touched.{Columns, touch_in, column_from, column_of, touches_of, Changes, ChangesPlace, added, both}
use Rattle.reducer_views.proofs.Touches.{columns, place_first, place_odd, place_even, spread_first, spread_odd, spread_even, spread_both}

abbrev Table : Type 0 → Type 0
Table A = Option (Box (Slot A) A)

-- a slot by its parts
abbrev pub opened : {A : Type 0} → Slot A → Columns
opened {A} slot = columns (out-Slot A slot).row (column_of (out-Slot A slot).odd) (column_of (out-Slot A slot).even)

abbrev pub rolled : {A : Type 0} → Row → Table A → Table A → ℕ → Slot A
rolled {A} row odd even later = roll-Slot A (record { row = row; odd = odd; even = even; later = later })

pub columns_out : {A : Type 0} (slot : Slot A) (place number : ℕ) → column_from slot place number ≡ opened slot place number
unfolding out-Slot denote.Hole.Carrier.out
columns_out {A} (Slot' row None' None' later) place number = refl
columns_out {A} (Slot' row None' (Some' p even) later) place number = refl
columns_out {A} (Slot' row (Some' p odd) None' later) place number = refl
columns_out {A} (Slot' row (Some' p odd) (Some' q even) later) place number = refl

pub columns_roll : {A : Type 0} (row : Row) (odd even : Table A) (later place number : ℕ) →
    column_from (rolled row odd even later) place number ≡ columns row (column_of odd) (column_of even) place number
unfolding roll-Slot denote.Hole.Carrier.roll
columns_roll {A} row None None later place number = refl
columns_roll {A} row None (Some even) later place number = refl
columns_roll {A} row (Some odd) None later place number = refl
columns_roll {A} row (Some odd) (Some even) later place number = refl

-- where a row is found
pub found_first : {A : Type 0} (slot : Slot A) (place number : ℕ) → number ≡ 0 → touch_in (out-Slot A slot).row place ≡ column_from slot place number
found_first {A} slot place number e =
    sym (columns_out slot place number ∙ spread_first (touch_in (out-Slot A slot).row place) (column_of (out-Slot A slot).odd place) (column_of (out-Slot A slot).even place) number e)

pub found_odd : {A : Type 0} (slot : Slot A) (place number : ℕ) → number ≢ 0 → number % 2 ≡ 1 → column_of (out-Slot A slot).odd place ((number - 1) / 2) ≡ column_from slot place number
found_odd {A} slot place number ne o =
    sym (columns_out slot place number ∙ spread_odd (touch_in (out-Slot A slot).row place) (column_of (out-Slot A slot).odd place) (column_of (out-Slot A slot).even place) number ne o)

pub found_even : {A : Type 0} (slot : Slot A) (place number : ℕ) → number ≢ 0 → number % 2 ≢ 1 → column_of (out-Slot A slot).even place ((number - 1) / 2) ≡ column_from slot place number
found_even {A} slot place number ne o =
    sym (columns_out slot place number ∙ spread_even (touch_in (out-Slot A slot).row place) (column_of (out-Slot A slot).odd place) (column_of (out-Slot A slot).even place) number ne o)

-- the reserve is enough for what is left of the way
pub enough : (number before after : ℕ) → number ≢ 0 → number + 1 < 2 ^ before → before ≤ after + 1 → (number - 1) / 2 + 1 < 2 ^ after
enough number before after ne room less =
    let more : 2 ^ before ≤ 2 ^ (after + 1) = pow-le-pow_right (lit< tt) less in
    let e : 2 ^ (after + 1) ≡ 2 * 2 ^ after = ap (λ n. 2 ^ n) (omega arith) ∙ pow-succ' 2 after in
    omega (arith, more, e, room)

pub some_left : (number count : ℕ) → number + 1 < 2 ^ count → 0 < count
some_left number zero room = absurd (omega arith)
some_left number (suc count) room = omega arith

-- what has room has a full reserve
pub full : (now inside : Bool) (count : ℕ) (Rest : Type 0) → inside ≡ now → IsTrue now → (inside ≡ true → (33 ≤ count) × Rest) → 33 ≤ count
full true inside count Rest e t k = (k e).0
full false inside count Rest e t k = absurd (let q : false ≡ true = t in cc)

pub way_room : (reducer count : ℕ) → reducer < 2 ^ 32 → 33 ≤ count → reducer + 1 < 2 ^ count
way_room reducer count small le =
    let more : 2 ^ 33 ≤ 2 ^ count = pow-le-pow_right (lit< tt) le in
    omega (arith, more)

-- one touch is set, by where it stands
module _ {A : Type 0} (old : Columns) (slot : Slot A) (number place : ℕ) (touch : Touch) (before : (place number : ℕ) → column_from slot place number ≡ old place number) where
  changes_through : (now : Columns) (new : Slot A) → ((place number : ℕ) → column_from new place number ≡ now place number) →
      ChangesPlace (opened slot) now number place touch → ChangesPlace old (column_from new) number place touch
  changes_through now new after change = record {
    column = record {
      changed = after place number ∙ change.column.changed;
      others = λ other ne. after place other ∙ (change.column.others other ne ∙ (sym (columns_out slot place other) ∙ before place other));
    };
    others = λ other ne row. after other row ∙ (change.others other ne row ∙ (sym (columns_out slot other row) ∙ before other row));
  }

  pub set_first : (row : Row) → number ≡ 0 → Changes (touch_in (out-Slot A slot).row) (touch_in row) place touch →
      ChangesPlace old (column_from (rolled row (out-Slot A slot).odd (out-Slot A slot).even (out-Slot A slot).later)) number place touch
  set_first row e change =
      changes_through (columns row (column_of (out-Slot A slot).odd) (column_of (out-Slot A slot).even)) (rolled row (out-Slot A slot).odd (out-Slot A slot).even (out-Slot A slot).later)
      (columns_roll row (out-Slot A slot).odd (out-Slot A slot).even (out-Slot A slot).later)
      (place_first (out-Slot A slot).row row (column_of (out-Slot A slot).odd) (column_of (out-Slot A slot).even) number place touch e change)

  pub set_odd : (odd : Table A) → number ≢ 0 → number % 2 ≡ 1 → ChangesPlace (column_of (out-Slot A slot).odd) (column_of odd) ((number - 1) / 2) place touch →
      ChangesPlace old (column_from (rolled (out-Slot A slot).row odd (out-Slot A slot).even (out-Slot A slot).later)) number place touch
  set_odd odd ne o change =
      changes_through (columns (out-Slot A slot).row (column_of odd) (column_of (out-Slot A slot).even)) (rolled (out-Slot A slot).row odd (out-Slot A slot).even (out-Slot A slot).later)
      (columns_roll (out-Slot A slot).row odd (out-Slot A slot).even (out-Slot A slot).later)
      (place_odd (out-Slot A slot).row (column_of (out-Slot A slot).odd) (column_of odd) (column_of (out-Slot A slot).even) number place touch ne o change)

  pub set_even : (even : Table A) → number ≢ 0 → number % 2 ≢ 1 → ChangesPlace (column_of (out-Slot A slot).even) (column_of even) ((number - 1) / 2) place touch →
      ChangesPlace old (column_from (rolled (out-Slot A slot).row (out-Slot A slot).odd even (out-Slot A slot).later)) number place touch
  set_even even ne o change =
      changes_through (columns (out-Slot A slot).row (column_of (out-Slot A slot).odd) (column_of even)) (rolled (out-Slot A slot).row (out-Slot A slot).odd even (out-Slot A slot).later)
      (columns_roll (out-Slot A slot).row (out-Slot A slot).odd even (out-Slot A slot).later)
      (place_even (out-Slot A slot).row (column_of (out-Slot A slot).odd) (column_of (out-Slot A slot).even) (column_of even) number place touch ne o change)

-- a touch is combined behind a slot, by where it stands
module _ {A : Type 0} (slot : Slot A) (number place : ℕ) (touch : Touch) where
  pub gather_first : (row : Row) → number ≡ 0 → Changes (touch_in (out-Slot A slot).row) (touch_in row) place (added (touch_in (out-Slot A slot).row place) touch) →
      ChangesPlace (column_from slot) (column_from (rolled row (out-Slot A slot).odd (out-Slot A slot).even (out-Slot A slot).later)) number place (added (column_from slot place number) touch)
  gather_first row e change =
      set_first (column_from slot) slot number place (added (column_from slot place number) touch) (λ p n. refl) row e
      (subst (λ (t : Option Touch). Changes (touch_in (out-Slot A slot).row) (touch_in row) place (added t touch)) (found_first slot place number e) change)

  pub gather_odd : (odd : Table A) → number ≢ 0 → number % 2 ≡ 1 →
      ChangesPlace (column_of (out-Slot A slot).odd) (column_of odd) ((number - 1) / 2) place (added (column_of (out-Slot A slot).odd place ((number - 1) / 2)) touch) →
      ChangesPlace (column_from slot) (column_from (rolled (out-Slot A slot).row odd (out-Slot A slot).even (out-Slot A slot).later)) number place (added (column_from slot place number) touch)
  gather_odd odd ne o change =
      set_odd (column_from slot) slot number place (added (column_from slot place number) touch) (λ p n. refl) odd ne o
      (subst (λ (t : Option Touch). ChangesPlace (column_of (out-Slot A slot).odd) (column_of odd) ((number - 1) / 2) place (added t touch)) (found_odd slot place number ne o) change)

  pub gather_even : (even : Table A) → number ≢ 0 → number % 2 ≢ 1 →
      ChangesPlace (column_of (out-Slot A slot).even) (column_of even) ((number - 1) / 2) place (added (column_of (out-Slot A slot).even place ((number - 1) / 2)) touch) →
      ChangesPlace (column_from slot) (column_from (rolled (out-Slot A slot).row (out-Slot A slot).odd even (out-Slot A slot).later)) number place (added (column_from slot place number) touch)
  gather_even even ne o change =
      set_even (column_from slot) slot number place (added (column_from slot place number) touch) (λ p n. refl) even ne o
      (subst (λ (t : Option Touch). ChangesPlace (column_of (out-Slot A slot).even) (column_of even) ((number - 1) / 2) place (added t touch)) (found_even slot place number ne o) change)

-- a reducer is known by its row and its place there
same_reducer : (reducer other : ℕ) → other % 4 ≡ reducer % 4 → other / 4 ≡ reducer / 4 → other ≡ reducer
same_reducer reducer other a b = omega (arith, a, b)

pub touches_change : {A : Type 0} (old new : Table A) (reducer : ℕ) (touch : Touch) → ChangesPlace (column_of old) (column_of new) (reducer / 4) (reducer % 4) touch →
    Changes (touches_of old) (touches_of new) reducer touch
touches_change {A} old new reducer touch change = record {
  changed = change.column.changed;
  others = λ other ne. elim (eqb_tells (other % 4) (reducer % 4)) [
    | inl t ↦ subst (λ (place : ℕ). column_of new place (other / 4) ≡ column_of old place (other / 4)) (sym t.1) (change.column.others (other / 4) (λ e. ne (same_reducer reducer other t.1 e)))
    | inr t ↦ change.others (other % 4) t.1 (other / 4)
  ];
}

-- what set and gather ask of the place and of the row of a reducer
pub place_below : (reducer : ℕ) → reducer % 4 < 4
place_below reducer = omega arith

pub row_room : (reducer limit : ℕ) → reducer + 1 < limit → reducer / 4 + 1 < limit
row_room reducer limit room = omega (arith, room)

reducer_at : (place number : ℕ) → place < 4 → ((4 * number + place) % 4 ≡ place) × ((4 * number + place) / 4 ≡ number)
reducer_at place number small = (omega (arith, small), omega (arith, small))

-- what two tables make of each reducer, they make at each place
columns_both : {A : Type 0} (left right new : Table A) → ((reducer : ℕ) → touches_of new reducer ≡ both (touches_of left reducer) (touches_of right reducer)) →
    (place : ℕ) → place < 4 → (number : ℕ) → column_of new place number ≡ both (column_of left place number) (column_of right place number)
columns_both {A} left right new made place small number =
    let known = reducer_at place number small in
    subst (λ (row : ℕ). column_of new place row ≡ both (column_of left place row) (column_of right place row)) known.1
    (subst (λ (at : ℕ). column_of new at ((4 * number + place) / 4) ≡ both (column_of left at ((4 * number + place) / 4)) (column_of right at ((4 * number + place) / 4))) known.0
    (made (4 * number + place)))

-- a slot that was written
module _ {A : Type 0} (row : Row) (odd even : Table A) where
  abbrev HoldsParts : Slot A → Type 0
  HoldsParts slot =
      ((out-Slot A slot).row ≡ row) × ((place number : ℕ) → column_of (out-Slot A slot).odd place number ≡ column_of odd place number) ×
      ((place number : ℕ) → column_of (out-Slot A slot).even place number ≡ column_of even place number)

reopened : {A : Type 0} (row : Row) (odd even : Table A) (later : ℕ) → HoldsParts row odd even (rolled row odd even later)
unfolding out-Slot roll-Slot denote.Hole.Carrier.out denote.Hole.Carrier.roll
reopened {A} row None None later = (refl, λ p n. refl, λ p n. refl)
reopened {A} row None (Some even) later = (refl, λ p n. refl, λ p n. refl)
reopened {A} row (Some odd) None later = (refl, λ p n. refl, λ p n. refl)
reopened {A} row (Some odd) (Some even) later = (refl, λ p n. refl, λ p n. refl)

holds_parts : {A : Type 0} (slot : Slot A) (row : Row) (odd even : Table A) (later : ℕ) → slot ≡ rolled row odd even later → HoldsParts row odd even slot
holds_parts {A} slot row odd even later e = subst (HoldsParts row odd even) (sym e) (reopened row odd even later)

both_out : {A : Type 0} (slot other : Slot A) (row : Row) (odd even : Table A) (later place : ℕ) → touch_in row place ≡ both (touch_in (out-Slot A slot).row place) (touch_in (out-Slot A other).row place) →
    ((number : ℕ) → column_of odd place number ≡ both (column_of (out-Slot A slot).odd place number) (column_of (out-Slot A other).odd place number)) →
    ((number : ℕ) → column_of even place number ≡ both (column_of (out-Slot A slot).even place number) (column_of (out-Slot A other).even place number)) →
    (number : ℕ) → column_from (rolled row odd even later) place number ≡ both (column_from slot place number) (column_from other place number)
both_out {A} slot other row odd even later place a b c number =
    columns_roll row odd even later place number ∙
    (spread_both (touch_in (out-Slot A slot).row place) (touch_in (out-Slot A other).row place) (touch_in row place) (column_of (out-Slot A slot).odd place) (column_of (out-Slot A other).odd place) (column_of odd place)
    (column_of (out-Slot A slot).even place) (column_of (out-Slot A other).even place) (column_of even place) a b c number ∙
    sym (ap₂ both (columns_out slot place number) (columns_out other place number)))

-- a later table that was absorbed, slot by slot
pub absorbed : {A : Type 0} (slots later : Table A) (slot other : Box (Slot A) A) (read other_read written touched other_touched second other_second : Slot A) (row : Row)
    (odd even later_odd later_even rest : Table A) → slots ≡ Some slot → later ≡ Some other → read ≡ slot.value → other_read ≡ other.value → written ≡ slot.value →
    ((place : ℕ) → touch_in row place ≡ both (touch_in (out-Slot A read).row place) (touch_in (out-Slot A other_read).row place)) →
    touched ≡ rolled row (out-Slot A written).odd (out-Slot A written).even (out-Slot A written).later → other_touched ≡ other.value →
    later_odd ≡ (out-Slot A other_touched).odd → ((reducer : ℕ) → touches_of odd reducer ≡ both (touches_of (out-Slot A touched).odd reducer) (touches_of later_odd reducer)) →
    second ≡ rolled (out-Slot A touched).row odd (out-Slot A touched).even (out-Slot A touched).later →
    other_second ≡ rolled (out-Slot A other_touched).row rest (out-Slot A other_touched).even (out-Slot A other_touched).later →
    later_even ≡ (out-Slot A other_second).even → ((reducer : ℕ) → touches_of even reducer ≡ both (touches_of (out-Slot A second).even reducer) (touches_of later_even reducer)) →
    (reducer : ℕ) → column_from (rolled (out-Slot A second).row (out-Slot A second).odd even (out-Slot A second).later) (reducer % 4) (reducer / 4) ≡ both (touches_of slots reducer) (touches_of later reducer)
absorbed {A} slots later slot other read other_read written touched other_touched second other_second row odd even later_odd later_even rest
    slots_is later_is read_is other_is written_is row_is touched_is other_touched_is later_odd_is odd_is second_is other_second_is later_even_is even_is reducer =
    both_out slot.value other.value (out-Slot A second).row (out-Slot A second).odd even (out-Slot A second).later place first_is odds_are evens_are (reducer / 4) ∙
    sym (ap₂ both (ap (λ (s : Table A). touches_of s reducer) slots_is) (ap (λ (s : Table A). touches_of s reducer) later_is))
  where
    place : ℕ
    place = reducer % 4

    first_step : HoldsParts row (out-Slot A written).odd (out-Slot A written).even touched
    first_step = holds_parts touched row (out-Slot A written).odd (out-Slot A written).even (out-Slot A written).later touched_is

    second_step : HoldsParts (out-Slot A touched).row odd (out-Slot A touched).even second
    second_step = holds_parts second (out-Slot A touched).row odd (out-Slot A touched).even (out-Slot A touched).later second_is

    other_step : HoldsParts (out-Slot A other_touched).row rest (out-Slot A other_touched).even other_second
    other_step = holds_parts other_second (out-Slot A other_touched).row rest (out-Slot A other_touched).even (out-Slot A other_touched).later other_second_is

    first_is : touch_in (out-Slot A second).row place ≡ both (touch_in (out-Slot A slot.value).row place) (touch_in (out-Slot A other.value).row place)
    first_is =
        ap (λ (r : Row). touch_in r place) (second_step.0 ∙ first_step.0) ∙
        (row_is place ∙ ap₂ both (ap (λ (s : Slot A). touch_in (out-Slot A s).row place) read_is) (ap (λ (s : Slot A). touch_in (out-Slot A s).row place) other_is))

    odds_are : (number : ℕ) → column_of (out-Slot A second).odd place number ≡ both (column_of (out-Slot A slot.value).odd place number) (column_of (out-Slot A other.value).odd place number)
    odds_are number =
        second_step.1 place number ∙ (columns_both (out-Slot A touched).odd later_odd odd odd_is place (place_below reducer) number ∙
        ap₂ both (first_step.1 place number ∙ ap (λ (s : Slot A). column_of (out-Slot A s).odd place number) written_is)
        (ap (λ (s : Table A). column_of s place number) later_odd_is ∙ ap (λ (s : Slot A). column_of (out-Slot A s).odd place number) other_touched_is))

    evens_are : (number : ℕ) → column_of even place number ≡ both (column_of (out-Slot A slot.value).even place number) (column_of (out-Slot A other.value).even place number)
    evens_are number =
        columns_both (out-Slot A second).even later_even even even_is place (place_below reducer) number ∙
        ap₂ both (second_step.2 place number ∙ (first_step.2 place number ∙ ap (λ (s : Slot A). column_of (out-Slot A s).even place number) written_is))
        (ap (λ (s : Table A). column_of s place number) later_even_is ∙ (other_step.2 place number ∙ ap (λ (s : Slot A). column_of (out-Slot A s).even place number) other_touched_is))
