-- Where an item stands in a list, and where it stands once another one was inserted.
use Rattle.std.proofs.Common.{◌≡◌, ◌≢◌, ℕ, ◌+◌, ◌-◌, ◌<◌, ◌≤◌, List, length, get_or, eqb, insert, arith}
use Rattle.std.proofs.lemmas.Bool.{eq-eqb, ne_eqb, eqb-true, eqb-false}
use Rattle.std.proofs.lemmas.List.Sums.{position_or_len_is, passes_at_first, fails_before_first}
use Rattle.std.proofs.lemmas.List.Edits.{length-insert, get_or-insert_below, get_or-insert_at, get_or-insert_above}
use Rattle.order_list.specs.Order.{place_of}

pub get_or-place_of : (item : ℕ) (items : List ℕ) → place_of item items < length items → get_or items (place_of item items) 0 ≡ item
unfolding place_of
get_or-place_of item items within = eqb-true _ _ (passes_at_first (λ other. eqb other item) items 0 within)

-- an item stands at the first position that has it
pub place_of-is : (item : ℕ) (items : List ℕ) (place : ℕ) → place < length items → get_or items place 0 ≡ item → ((earlier : ℕ) → earlier < place → get_or items earlier 0 ≢ item) → place_of item items ≡ place
unfolding place_of
place_of-is item items place within is before =
    position_or_len_is (λ other. eqb other item) items place 0 (omega arith) (λ earlier l. ne_eqb _ _ (before earlier l)) (λ _. eq-eqb _ _ is)

pub not_before_place : (item : ℕ) (items : List ℕ) (earlier : ℕ) → earlier < place_of item items → get_or items earlier 0 ≢ item
unfolding place_of
not_before_place item items earlier l = eqb-false _ _ (fails_before_first (λ other. eqb other item) items earlier 0 l)

pub place_of-le : (item : ℕ) (items : List ℕ) (place : ℕ) → get_or items place 0 ≡ item → place_of item items ≤ place
place_of-le item items place is = grind (arith, not_before_place item items place)

-- what stands at a position once `new` was inserted at `at_place`
pub inserted-read : (items : List ℕ) (at_place new place : ℕ) → at_place ≤ length items → (place < at_place → get_or (insert items at_place new) place 0 ≡ get_or items place 0) × (place ≡ at_place → get_or (insert items at_place new) place 0 ≡ new) × (at_place < place → get_or (insert items at_place new) place 0 ≡ get_or items (place - 1) 0)
inserted-read items at_place new place within = (
  λ before. get_or-insert_below items at_place new 0 place before within,
  λ here. rw here (get_or-insert_at items at_place new 0 within),
  λ behind. let same : place - 1 + 1 ≡ place = omega arith in rw same at (get_or-insert_above items at_place new 0 (place - 1) (omega arith) within),
)

-- and where an item stands then
pub place-below : (items : List ℕ) (at_place new item : ℕ) → at_place ≤ length items → place_of item items < at_place → place_of item (insert items at_place new) ≡ place_of item items
place-below items at_place new item within below =
    place_of-is item (insert items at_place new) (place_of item items) (omega (arith, length-insert items at_place new within))
    (grind (arith, inserted-read items at_place new (place_of item items) within, get_or-place_of item items))
    (λ earlier l. grind (arith, inserted-read items at_place new earlier within, not_before_place item items earlier))

pub place-above : (items : List ℕ) (at_place new item : ℕ) → at_place ≤ length items → at_place ≤ place_of item items → place_of item items < length items → new ≢ item → place_of item (insert items at_place new) ≡ place_of item items + 1
place-above items at_place new item within above known other =
    place_of-is item (insert items at_place new) (place_of item items + 1) (omega (arith, length-insert items at_place new within))
    (grind (arith, inserted-read items at_place new (place_of item items + 1) within, get_or-place_of item items))
    (λ earlier l. grind (arith, inserted-read items at_place new earlier within, not_before_place item items earlier, not_before_place item items (earlier - 1)))

pub place-new : (items : List ℕ) (at_place new : ℕ) → at_place ≤ length items → ((place : ℕ) → place < length items → get_or items place 0 ≢ new) → place_of new (insert items at_place new) ≡ at_place
place-new items at_place new within absent =
    place_of-is new (insert items at_place new) at_place (omega (arith, length-insert items at_place new within)) (get_or-insert_at items at_place new 0 within)
    (λ earlier l. grind (arith, inserted-read items at_place new earlier within, absent earlier))
