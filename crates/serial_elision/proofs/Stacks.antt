-- Functions that are begun, the topmost last.
use Rattle.std.proofs.Common.{◌≡◌, ℕ, zero, suc, ◌+◌, ◌-◌, ◌<◌, false, List, [], ◌∷◌, ◌++◌, refl, sym, ap, ◌∙◌, arith, length, take, length-append}
use Rattle.std.specs.Prelude.{slice_index_or, slice_set}
use Rattle.std.proofs.lemmas.List.{get_or_default}
use Rattle.model_reducers.specs.declared.monoid.Monoid.{Monoid}
use Rattle.model_reducers.specs.declared.view.View.{View}
use Rattle.serial_elision.specs.declared.activation.ElidedCall.{ElidedCall}
use Rattle.serial_elision.specs.States.{IsLeft, is_left, begun, topmost, waiting, is_idle, state_in, with_top, with_begun}

topmost_pushed : (front : List ElidedCall) (top : ElidedCall) → topmost (front ++ top ∷ []) ≡ top
topmost_pushed [] top = refl
topmost_pushed (x ∷ []) top = refl
topmost_pushed (x ∷ y ∷ front) top = topmost_pushed (y ∷ front) top

waiting_pushed : (front : List ElidedCall) (top : ElidedCall) → waiting (front ++ top ∷ []) ≡ front
waiting_pushed [] top = refl
waiting_pushed (x ∷ []) top = refl
waiting_pushed (x ∷ y ∷ front) top = ap (λ l. x ∷ l) (waiting_pushed (y ∷ front) top)

busy_pushed : (front : List ElidedCall) (top : ElidedCall) → is_idle (front ++ top ∷ []) ≡ false
busy_pushed [] top = refl
busy_pushed (x ∷ front) top = refl

-- a stack is what waits, and then the topmost function
whole : (stack : List ElidedCall) → is_idle stack ≡ false → stack ≡ waiting stack ++ topmost stack ∷ []
whole [] busy = absurd cc
whole (x ∷ []) busy = refl
whole (x ∷ y ∷ stack) busy = ap (λ l. x ∷ l) (whole (y ∷ stack) refl)

set_at_end : (front : List ElidedCall) (old new : ElidedCall) → slice_set (front ++ old ∷ []) (length front) new ≡ front ++ new ∷ []
set_at_end [] old new = refl
set_at_end (x ∷ front) old new = ap (λ l. x ∷ l) (set_at_end front old new)

-- the last item is the topmost function
last_topmost : (stack : List ElidedCall) (last : ℕ) (item : ElidedCall) → last + 1 ≡ length stack → item ≡ slice_index_or stack last item → item ≡ topmost stack
last_topmost [] last item e i = absurd (omega (arith, e))
last_topmost (x ∷ stack) last item e i =
    let k : last ≡ length stack = omega (arith, e) in
    let within : last < length (x ∷ stack) = omega (arith, e) in
    i ∙ get_or_default (x ∷ stack) last item (begun 0 0) within ∙ ap (λ n. slice_index_or (x ∷ stack) n (begun 0 0)) k

abbrev nothing : List ElidedCall
nothing = []

take_none : (n : ℕ) → take n nothing ≡ nothing
take_none zero = refl
take_none (suc n) = refl

-- what is left without the last item waits
front_waiting : (stack : List ElidedCall) (n : ℕ) → n ≡ length stack → take (n - 1) stack ≡ waiting stack
front_waiting [] n e = take_none (n - 1)
front_waiting (x ∷ stack) n e = let k : n - 1 ≡ length stack = omega (arith, e) in ap (λ m. take m (x ∷ stack)) k

-- another topmost function in its place
set_last : (stack : List ElidedCall) (last : ℕ) (new : ElidedCall) → is_idle stack ≡ false → last + 1 ≡ length stack → slice_set stack last new ≡ waiting stack ++ new ∷ []
set_last stack last new busy e =
    let w = whole stack busy in
    let n = length-append (waiting stack) (topmost stack ∷ []) in
    let l : length stack ≡ length (waiting stack ++ topmost stack ∷ []) = ap (λ s. length s) w in
    let one : length (topmost stack ∷ []) ≡ 1 = refl in
    let k : last ≡ length (waiting stack) = omega (arith, n, l, e, one) in
    ap (λ s. slice_set s last new) w ∙ ap (λ i. slice_set (waiting stack ++ topmost stack ∷ []) i new) k ∙ set_at_end (waiting stack) (topmost stack) new

module _ (memory : List ℕ) (views : List View) (monoids : List Monoid) where
  pushed : (front : List ElidedCall) (top : ElidedCall) → state_in (front ++ top ∷ []) memory views monoids ≡ record { top = top; callers = front; memory = memory; views = views; monoids = monoids; over = false }
  pushed front top = λ i. record { top = topmost_pushed front top i; callers = waiting_pushed front top i; memory = memory; views = views; monoids = monoids; over = busy_pushed front top i }

  -- a function changed in its place
  pub topped : (stack : List ElidedCall) (last : ℕ) (item new : ElidedCall) (change : ElidedCall → ElidedCall) → is_idle stack ≡ false → last + 1 ≡ length stack → item ≡ slice_index_or stack last item → new ≡ change item → state_in (slice_set stack last new) memory views monoids ≡ with_top (state_in stack memory views monoids) (change (topmost stack))
  topped stack last item new change busy e i n =
      ap (λ s. state_in s memory views monoids) (set_last stack last new busy e ∙ ap (λ t. waiting stack ++ t ∷ []) (n ∙ ap change (last_topmost stack last item e i)))
      ∙ pushed (waiting stack) (change (topmost stack))
      ∙ ap (λ b. record { top = change (topmost stack); callers = waiting stack; memory = memory; views = views; monoids = monoids; over = b }) (sym busy)

  -- a function begun above it
  pub one_more : (stack : List ElidedCall) (function argument : ℕ) → is_idle stack ≡ false → state_in (stack ++ begun function argument ∷ []) memory views monoids ≡ with_begun (state_in stack memory views monoids) (topmost stack) function argument
  one_more stack function argument busy =
      pushed stack (begun function argument)
      ∙ (λ i. record { top = begun function argument; callers = whole stack busy i; memory = memory; views = views; monoids = monoids; over = sym busy i })

-- the topmost function gone
pub leaves : (stack left : List ElidedCall) (n : ℕ) (memory : List ℕ) (views : List View) (monoids : List Monoid) → n ≡ length stack → left ≡ take (n - 1) stack → IsLeft (state_in stack memory views monoids) (state_in left memory views monoids)
leaves stack left n memory views monoids count e = record { stack = stays left (e ∙ front_waiting stack n count); memory = refl; views = refl; monoids = refl }
  where
    stays : (left : List ElidedCall) → left ≡ waiting stack → is_left (is_idle left) (state_in stack memory views monoids) (state_in left memory views monoids)
    stays [] e = (sym e, refl, refl)
    stays (x ∷ left) e = sym e ∙ whole (x ∷ left) refl
