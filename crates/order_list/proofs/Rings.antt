-- What a ring says of its items, and a ring in which an item was tied in.
use Rattle.std.proofs.Common.{◌≡◌, ◌≢◌, ℕ, zero, suc, ◌+◌, ◌-◌, ◌<◌, ◌≤◌, List, [], ◌∷◌, ◌++◌, length, get_or, set, insert, refl, ap, sym, ◌∙◌, add-one, arith}
use Rattle.std.proofs.lemmas.Grind.{common_steps}
use Rattle.std.proofs.lemmas.List.{get_or_past, length_push, length-set}
use Rattle.std.proofs.lemmas.List.Edits.{length-insert}
use Rattle.order_list.specs.Order.{place_of}
use Rattle.order_list.specs.Ring.{walk, order_of, IsChain, IsRing}
use Rattle.order_list.proofs.Places.{get_or-place_of, place_of-le, place-below, place-above, inserted-read}
use Rattle.order_list.proofs.Insertions.{new-behind, insert-numbered, insert-listing}

-- a list whose items follow one another along `next` is the walk from its first item
walk-items : (next items : List ℕ) (first : ℕ) → (0 < length items → get_or items 0 0 ≡ first) → ((place : ℕ) → suc place < length items → get_or next (get_or items place 0) 0 ≡ get_or items (suc place) 0) → walk next (length items) first ≡ items
walk-items next [] first begins follows = refl
walk-items next (item ∷ items) first begins follows =
    let rest : walk next (length items) (get_or next item 0) ≡ items = walk-items next items (get_or next item 0) (λ l. sym (follows zero (omega arith))) (λ place l. follows (suc place) (omega arith)) in
    rw (← begins (omega arith)) (ap (λ others. item ∷ others) rest)

module _ {next items : List ℕ} (ring : IsChain next items) where
  -- its items are those that a walk along `next` finds
  pub order_of-items : order_of next ≡ items
  unfolding order_of
  order_of-items =
      rw ring.next_len (walk-items next items 0 (λ _. ring.begins) (λ place l. rw (← add-one place) (ring.forward place (omega arith))))

  pub item_at : (item : ℕ) → item < length items → get_or items (place_of item items) 0 ≡ item
  item_at item known = get_or-place_of item items (ring.listing item known)

  -- an item stands at one position alone
  pub apart : (place other : ℕ) → place < length items → other < length items → get_or items place 0 ≡ get_or items other 0 → place ≡ other
  apart place other within within_other e = sym (ring.placed place within) ∙ (ap (λ item. place_of item items) e ∙ ring.placed other within_other)

  -- 0 follows the last item alone
  pub past_end : (place : ℕ) → 0 < place → place ≤ length items → get_or items place 0 ≡ 0 → place ≡ length items
  past_end place positive within zeroth = grind (arith, apart place 0, ring.not_empty, ring.begins)

  pub known_at : (place : ℕ) → place ≤ length items → get_or items place 0 < length items
  known_at place within = grind (arith, ring.numbered place, get_or_past items place 0, ring.not_empty)

  pub next_is : (item : ℕ) → item < length items → get_or next item 0 ≡ get_or items (place_of item items + 1) 0
  next_is item known = ap (λ x. get_or next x 0) (sym (item_at item known)) ∙ ring.forward (place_of item items) (ring.listing item known)

  -- item 0 alone stands first
  place-positive : (item : ℕ) → item < length items → 0 < item → 0 < place_of item items
  place-positive item known positive = grind (arith, item_at item known, ring.begins)

module _ {next previous items : List ℕ} (ring : IsRing next previous items) where
  pub in_order : IsRing next previous (order_of next)
  in_order = rw (order_of-items ring.chain) ring

  previous_is : (item : ℕ) → item < length items → 0 < item → get_or previous item 0 ≡ get_or items (place_of item items - 1) 0
  previous_is item known positive =
      let place = place_of item items in
      grind (arith, item_at ring.chain item known, ring.backward (place - 1), ring.chain.listing item known, place-positive ring.chain item known positive)

  pub previous_known : (item : ℕ) → item < length items → 0 < item → get_or previous item 0 < length items
  previous_known item known positive =
      omega (arith, previous_is item known positive, ring.chain.numbered (place_of item items - 1) (omega (arith, ring.chain.listing item known)))

  pub place-previous : (item : ℕ) → item < length items → 0 < item → place_of (get_or previous item 0) items + 1 ≡ place_of item items
  place-previous item known positive =
      rw (previous_is item known positive) (omega (arith, ring.chain.placed (place_of item items - 1) (omega (arith, ring.chain.listing item known)), place-positive ring.chain item known positive))

-- item 0 alone
pub chain-one : IsChain (0 ∷ []) (0 ∷ [])
chain-one =
    let zeroth : (place : ℕ) → place < 1 → place ≡ 0 = λ place l. omega arith in
    let first : place_of 0 (0 ∷ []) ≡ 0 = omega (arith, place_of-le 0 (0 ∷ []) 0 refl) in
    record {
      begins = refl;
      not_empty = omega arith;
      next_len = refl;
      numbered = λ place l. rw (zeroth place l) (omega arith);
      listing = λ item l. rw (zeroth item l) (omega (arith, first));
      placed = λ place l. rw (zeroth place l) first;
      forward = λ place l. rw (zeroth place l) refl;
    }

pub ring-one : IsRing (0 ∷ []) (0 ∷ []) (0 ∷ [])
ring-one =
    let zeroth : (place : ℕ) → place < 1 → place ≡ 0 = λ place l. omega arith in
    record { chain = chain-one; previous_len = refl; backward = λ place l. rw (zeroth place l) refl }

pub order_of-one : order_of (0 ∷ []) ≡ 0 ∷ []
order_of-one = order_of-items chain-one

-- a list to which `pushed` was pushed, and in which `item` was then tied to `new`
length-tied : (ties : List ℕ) (pushed item new : ℕ) → length (set (ties ++ pushed ∷ []) item new) ≡ length ties + 1
length-tied ties pushed item new = length-set (ties ++ pushed ∷ []) item new ∙ length_push ties pushed

tied-read : (ties : List ℕ) (pushed item new other : ℕ) → item < length ties → (other ≡ item → get_or (set (ties ++ pushed ∷ []) item new) other 0 ≡ new) × (other < length ties → other ≢ item → get_or (set (ties ++ pushed ∷ []) item new) other 0 ≡ get_or ties other 0) × (other ≡ length ties → get_or (set (ties ++ pushed ∷ []) item new) other 0 ≡ pushed)
tied-read ties pushed item new other known =
    (λ same. grind (arith, common_steps), λ old ne. grind (arith, common_steps), λ last. grind (arith, common_steps))

-- a new item, tied in between `item` and the one that followed it
pub insert-chain : {next items : List ℕ} (ring : IsChain next items) (item following : ℕ) → item < length items → following ≡ get_or items (place_of item items + 1) 0 → IsChain (set (next ++ following ∷ []) item (length items)) (insert items (place_of item items + 1) (length items))
insert-chain {next} {items} ring item following known follows =
    let new = length items in
    let last = place_of item items in
    let at_place = last + 1 in
    let after = insert items at_place new in
    let is = item_at ring item known in
    let inside = ring.listing item known in
    let within : at_place ≤ length items = omega arith in
    let len = length-insert items at_place new within in
    record {
      begins = grind (arith, inserted-read items at_place new 0 within, ring.begins);
      not_empty = omega (arith, len);
      next_len = omega (arith, length-tied next following item new, ring.next_len, len);
      numbered = insert-numbered items item ring.numbered ring.listing known;
      listing = insert-listing items item ring.listing known;
      placed = λ place l. grind (arith, len, inserted-read items at_place new place within, place-below items at_place new (get_or items place 0) within, place-above items at_place new (get_or items (place - 1) 0) within, ring.placed place, ring.placed (place - 1), ring.numbered (place - 1), new-behind items item ring.numbered ring.listing known);
      forward = λ place l. grind (arith, len, inserted-read items at_place new place within, inserted-read items at_place new (place + 1) within, tied-read next following item new (get_or after place 0), ring.forward place, ring.forward (place - 1), ring.next_len, ring.numbered place, ring.numbered (place - 1), apart ring place last, apart ring (place - 1) last);
    }

insert-ring : {next previous items : List ℕ} (ring : IsRing next previous items) (item following : ℕ) → item < length items → following ≡ get_or items (place_of item items + 1) 0 → IsRing (set (next ++ following ∷ []) item (length items)) (set (previous ++ item ∷ []) following (length items)) (insert items (place_of item items + 1) (length items))
insert-ring {next} {previous} {items} ring item following known follows =
    let chain = ring.chain in
    let new = length items in
    let last = place_of item items in
    let at_place = last + 1 in
    let after = insert items at_place new in
    let is = item_at chain item known in
    let inside = chain.listing item known in
    let within : at_place ≤ length items = omega arith in
    let len = length-insert items at_place new within in
    record {
      chain = insert-chain chain item following known follows;
      previous_len = omega (arith, length-tied previous item following new, ring.previous_len, len);
      backward = λ place l. grind (arith, len, inserted-read items at_place new place within, inserted-read items at_place new (place + 1) within, tied-read previous item following new (get_or after (place + 1) 0), ring.backward place, ring.backward (place - 1), ring.backward last, ring.previous_len, known_at chain at_place within, known_at chain (place + 1), known_at chain place, apart chain place last, apart chain (place - 1) last);
    }

-- the same, as the code makes it
pub insert-tied : {next previous items : List ℕ} (next_pushed previous_pushed : List ℕ) (item following new : ℕ) → IsRing next previous items → item < length items → following ≡ get_or items (place_of item items + 1) 0 → new ≡ length items → next_pushed ≡ next ++ following ∷ [] → previous_pushed ≡ previous ++ item ∷ [] → IsRing (set next_pushed item new) (set previous_pushed following new) (insert items (place_of item items + 1) new)
insert-tied next_pushed previous_pushed item following new ring known follows is_new next_is previous_is =
    rw (next_is, previous_is, is_new) (insert-ring ring item following known follows)
