-- The lists of a history against the items of an order list.
use Rattle.std.proofs.Common.{◌≡◌, ◌≢◌, ◌⊎◌, inl, inr, ℕ, suc, ◌+◌, ◌<◌, true, false, cond, eqb, List, [], ◌∷◌, length, insert, refl, sym, ap, ◌∙◌, arith}
use Rattle.std.proofs.lemmas.Bool.Decides.{eqb_tells}
use Rattle.std.proofs.lemmas.List.Recursion.{is_position_or_len}
use Rattle.std.proofs.lemmas.List.Edits.{length-insert}
use Rattle.law_strands.specs.Lists.{placed_after, place_in}
use Rattle.order_list.specs.Order.{place_of}
use Rattle.order_list.proofs.Insertions.{insert-numbered, insert-listing}
use Rattle.sp_labels.specs.Roster.{IsOrder}

pub place-same : (item : ℕ) (items : List ℕ) → place_in item items ≡ place_of item items
unfolding place_in place_of
place-same item items = is_position_or_len (place_in item) (λ x. eqb x item) refl
    (λ x xs. let next : suc (place_in item xs) ≡ 1 + place_in item xs = omega arith in ap (λ n. cond (eqb x item) 0 n) next) items

placed-in : (item new : ℕ) (items : List ℕ) → place_in item items < length items →
    placed_after item new items ≡ insert items (suc (place_in item items)) new
unfolding place_in placed_after
placed-in item new [] h = absurd (omega arith)
placed-in item new (y ∷ ys) h = go (eqb_tells y item) h (placed-in item new ys)
  where
    go : ((eqb y item ≡ true) × (y ≡ item)) ⊎ ((eqb y item ≡ false) × (y ≢ item)) → cond (eqb y item) 0 (suc (place_in item ys)) < length (y ∷ ys) →
        (place_in item ys < length ys → placed_after item new ys ≡ insert ys (suc (place_in item ys)) new) →
        cond (eqb y item) (y ∷ new ∷ ys) (y ∷ placed_after item new ys) ≡ insert (y ∷ ys) (suc (cond (eqb y item) 0 (suc (place_in item ys)))) new
    go (inl t) l again = rw t.0 refl
    go (inr t) l again = rw t.0 (ap (λ r. y ∷ r) (again (let le : suc (place_in item ys) < suc (length ys) = rw t.0 at l in omega arith)))

pub placed_after-insert : (item new : ℕ) (items : List ℕ) → place_of item items < length items →
    placed_after item new items ≡ insert items (place_of item items + 1) new
placed_after-insert item new items h =
    let same = place-same item items in
    let within : place_in item items < length items = rw same h in
    let next : suc (place_in item items) ≡ place_of item items + 1 = omega arith in
    placed-in item new items within ∙ ap (λ i. insert items i new) next

-- an insertion directly behind an item keeps the list that of the history
pub order-grows : (items wanted larger : List ℕ) (count item new put : ℕ) → IsOrder items wanted count → item < count → new ≡ count →
    put ≡ length items → larger ≡ insert items (place_of item items + 1) put →
    IsOrder larger (placed_after item new wanted) (count + 1)
order-grows items wanted larger count item new put order lt is put_is grown =
    let known : item < length items = omega (arith, order.len) in
    let place_of-within : place_of item items < length items = order.listing item known in
    let same_new : length items ≡ new = order.len ∙ sym is in
    rw (grown, put_is) (record {
      same = sym (placed_after-insert item (length items) items place_of-within) ∙ ap (λ x. placed_after item x items) same_new ∙ ap (placed_after item new) order.same;
      len = omega (arith, length-insert items (place_of item items + 1) (length items) (omega arith), order.len);
      numbered = insert-numbered items item order.numbered order.listing known;
      listing = insert-listing items item order.listing known;
    })
