-- Items in groups: one more item, the room behind an item, and two items compared.
use Rattle.std.proofs.Common.{◌≡◌, ◌≢◌, ◌↔◌, ℕ, ◌+◌, ◌-◌, ◌*◌, ◌<◌, ◌≤◌, inl, inr, List, [], ◌∷◌, ◌++◌, length, get_or, set, insert, sym, ◌∙◌, arith}
use Rattle.std.proofs.lemmas.Bool.{cases_lt, cases_eq}
use Rattle.std.proofs.lemmas.List.{get_or_past, get_or_append_left, get_or_push, length_push}
use Rattle.std.proofs.lemmas.Grind.{same_number_lists}
use Rattle.std.proofs.lemmas.List.Edits.{length-insert}
use Rattle.order_list.specs.Order.{place_of}
use Rattle.order_list.specs.Labels.{labels_along}
use Rattle.order_list.specs.Places.{group_width, groups_of, locals_of, nexts_of, keys_of, IsGrouped}
use Rattle.order_list.specs.declared.place.Place.{Place}
use Rattle.order_list.proofs.Places.{inserted-read}
use Rattle.order_list.proofs.Insertions.{item-stays, new-behind, order-kept}
use Rattle.order_list.proofs.Rings.{item_at, known_at, next_is, insert-chain, past_end}
use Rattle.order_list.proofs.Rises.{label_of, label_past, label-lt, labels_along-insert, length-labels_along, insert-rising}
use Rattle.order_list.proofs.Groupings.{key_at, length-groups, length-locals, length-keys, key_is, ranks-rise, one-group}

-- a new item's key
keys-tied : (order : List ℕ) (old new : List Place) (group local : ℕ) → length new ≡ length old + 1 → groups_of new ≡ groups_of old ++ group ∷ [] → locals_of new ≡ locals_of old ++ local ∷ [] → keys_of order new ≡ keys_of order old ++ (place_of group order * group_width + local) ∷ []
keys-tied order old new group local len groups locals =
    let key = place_of group order * group_width + local in
    same_number_lists _ _ (omega (arith, length-keys new order, length-keys old order, length_push (keys_of order old) key)) (λ item inside.
    let within : item < length new = omega (arith, length-keys new order) in
    elim (cases_lt item (length old)) [
      | inl known ↦
          let group_is = rw (← groups) at (get_or_append_left (groups_of old) (group ∷ []) 0 item (omega (arith, length-groups old))) in
          let local_is = rw (← locals) at (get_or_append_left (locals_of old) (local ∷ []) 0 item (omega (arith, length-locals old))) in
          key_at new order item within
          ∙ (rw (group_is, local_is) (sym (key_at old order item known)) ∙ sym (get_or_append_left (keys_of order old) (key ∷ []) 0 item (omega (arith, length-keys old order))))
      | inr last ↦
          let is : item ≡ length old = omega arith in
          let group_is = rw (← groups) at (get_or_push (groups_of old) group 0 item (omega (arith, length-groups old))) in
          let local_is = rw (← locals) at (get_or_push (locals_of old) local 0 item (omega (arith, length-locals old))) in
          key_at new order item within ∙ (rw (group_is, local_is) (sym (get_or_push (keys_of order old) key 0 item (omega (arith, length-keys old order)))))
    ])

module _ {order firsts : List ℕ} {places : List Place} {items : List ℕ} (grouped : IsGrouped order firsts places items) where
  -- labels of items by their keys
  pub key_of : (item : ℕ) → item < length items → get_or (keys_of order places) item 0 ≡ place_of (get_or (groups_of places) item 0) order * group_width + get_or (locals_of places) item 0
  key_of item known = key_at places order item (omega (arith, grouped.len))

  pub next_known : (item : ℕ) → item < length items → get_or (nexts_of places) item 0 < length items
  next_known item known = rw (next_is grouped.chain item known) (known_at grouped.chain (place_of item items + 1) (omega (arith, grouped.chain.listing item known)))

  -- the item that follows, where there is one
  pub following : (item : ℕ) → item < length items → 0 < get_or (nexts_of places) item 0 → (place_of item items + 1 < length items) × (get_or items (place_of item items + 1) 0 ≡ get_or (nexts_of places) item 0)
  following item known some =
      let next = next_is grouped.chain item known in
      let inside = grouped.chain.listing item known in
      elim (cases_lt (place_of item items + 1) (length items)) [
        | inl within ↦ (within, sym next)
        | inr outer ↦ absurd (omega (arith, next, some, inside, get_or_past items (place_of item items + 1) 0 (omega arith)))
      ]

  pub last-item : (item : ℕ) → item < length items → get_or (nexts_of places) item 0 ≡ 0 → place_of item items + 1 ≡ length items
  last-item item known none =
      past_end grouped.chain (place_of item items + 1) (omega arith) (omega (arith, grouped.chain.listing item known)) (sym (next_is grouped.chain item known) ∙ none)

  -- room before the next item of the group
  pub room-inner : (item : ℕ) → item < length items → 0 < get_or (nexts_of places) item 0 → get_or (groups_of places) (get_or (nexts_of places) item 0) 0 ≡ get_or (groups_of places) item 0 → (get_or (locals_of places) item 0 ≤ get_or (locals_of places) (get_or (nexts_of places) item 0) 0) × (get_or (keys_of order places) item 0 + (get_or (locals_of places) (get_or (nexts_of places) item 0) 0 - get_or (locals_of places) item 0) ≤ get_or (labels_along (keys_of order places) items) (place_of item items + 1) 0)
  room-inner item known some same =
      let place = place_of item items in
      let next = following item known some in
      let rises = grouped.rising.rises place (omega (arith, next.0, length-labels_along (keys_of order places) items)) in
      let here = label_of (keys_of order places) items item (grouped.chain.listing item known) in
      let there = rw (next.1, same) at (key_is grouped (place + 1) next.0) in
      let le : get_or (locals_of places) item 0 ≤ get_or (locals_of places) (get_or (nexts_of places) item 0) 0 = omega (arith, rises, here, there, key_of item known) in
      (le, omega (arith, le, here, there, key_of item known))

  -- and before the end of the group
  pub room-last : (item : ℕ) → item < length items → (0 < get_or (nexts_of places) item 0 → get_or (groups_of places) (get_or (nexts_of places) item 0) 0 ≢ get_or (groups_of places) item 0) → get_or (keys_of order places) item 0 + (4294967295 - get_or (locals_of places) item 0) ≤ get_or (labels_along (keys_of order places) items) (place_of item items + 1) 0
  room-last item known differ =
      let place = place_of item items in
      let inside = grouped.chain.listing item known in
      let is = item_at grouped.chain item known in
      let small = grouped.small item known in
      elim (cases_eq (get_or (nexts_of places) item 0) 0) [
        | inl none ↦
            let past = rw (← last-item item known none) at (label_past (keys_of order places) items) in
            omega (arith, past, small, key_of item known, grouped.groups_listing (get_or (groups_of places) item 0) (grouped.known item known), grouped.few_groups)
        | inr other ↦
            let some : 0 < get_or (nexts_of places) item 0 = omega (arith, other) in
            let next = following item known some in
            let rise = rw (is, next.1) at (ranks-rise grouped place next.0 (λ same. differ some (sym (rw (is, next.1) at same)))) in
            let there = rw (next.1) at (key_is grouped (place + 1) next.0) in
            omega (arith, rise, there, small, key_of item known)
      ]

  -- items compare by their groups, and in a group by their places
  pub before-inner : (a b : ℕ) → a < length items → b < length items → get_or (groups_of places) a 0 ≡ get_or (groups_of places) b 0 → (get_or (locals_of places) a 0 < get_or (locals_of places) b 0) ↔ (place_of a items < place_of b items)
  before-inner a b known_a known_b same =
      let by_keys = label-lt (keys_of order places) items grouped.chain.listing grouped.rising a b known_a known_b in
      let key_a = rw same at (key_of a known_a) in
      let key_b = key_of b known_b in
      (λ l. by_keys.0 (omega (arith, l, key_a, key_b)), λ l. omega (arith, by_keys.1 l, key_a, key_b))

  pub before-outer : (a b : ℕ) → a < length items → b < length items → get_or (groups_of places) a 0 ≢ get_or (groups_of places) b 0 → (place_of (get_or (groups_of places) a 0) order < place_of (get_or (groups_of places) b 0) order) ↔ (place_of a items < place_of b items)
  before-outer a b known_a known_b differ =
      let by_keys = label-lt (keys_of order places) items grouped.chain.listing grouped.rising a b known_a known_b in
      let apart : place_of (get_or (groups_of places) a 0) order ≢ place_of (get_or (groups_of places) b 0) order = λ same. differ (one-group order _ _ grouped.groups_listing (grouped.known a known_a) (grouped.known b known_b) same) in (
        λ l. by_keys.0 (omega (arith, l, key_of a known_a, key_of b known_b, grouped.small a known_a, grouped.small b known_b)),
        λ l. omega (arith, by_keys.1 l, apart, key_of a known_a, key_of b known_b, grouped.small a known_a, grouped.small b known_b),
      )

  -- a new item in the group of `after`, `ahead` places behind it
  pub tied : (new : List Place) (after ahead number : ℕ) → after < length items → 0 < ahead → number ≡ length items → length new ≡ length places + 1 → groups_of new ≡ groups_of places ++ get_or (groups_of places) after 0 ∷ [] → locals_of new ≡ locals_of places ++ (get_or (locals_of places) after 0 + ahead) ∷ [] → nexts_of new ≡ set (nexts_of places ++ get_or (nexts_of places) after 0 ∷ []) after number → get_or (locals_of places) after 0 + ahead < group_width → get_or (keys_of order places) after 0 + ahead < get_or (labels_along (keys_of order places) items) (place_of after items + 1) 0 → IsGrouped order firsts new (insert items (place_of after items + 1) number)
  tied new after ahead number known some is_new len groups locals nexts fits below =
      let group = get_or (groups_of places) after 0 in
      let local = get_or (locals_of places) after 0 + ahead in
      let listing = grouped.chain.listing in
      let inside = listing after known in
      let after_len = length-insert items (place_of after items + 1) (length items) (omega arith) in
      let old_group : (item : ℕ) → item < length items → get_or (groups_of new) item 0 ≡ get_or (groups_of places) item 0 = λ item old. rw (← groups) at (get_or_append_left (groups_of places) (group ∷ []) 0 item (omega (arith, length-groups places, grouped.len))) in
      let new_group : get_or (groups_of new) (length items) 0 ≡ group = rw (← groups) at (get_or_push (groups_of places) group 0 (length items) (omega (arith, length-groups places, grouped.len))) in
      let old_local : (item : ℕ) → item < length items → get_or (locals_of new) item 0 ≡ get_or (locals_of places) item 0 = λ item old. rw (← locals) at (get_or_append_left (locals_of places) (local ∷ []) 0 item (omega (arith, length-locals places, grouped.len))) in
      let new_local : get_or (locals_of new) (length items) 0 ≡ local = rw (← locals) at (get_or_push (locals_of places) local 0 (length items) (omega (arith, length-locals places, grouped.len))) in
      let key = place_of group order * group_width + local in
      let keys = keys-tied order places new group local len groups locals in
      let key_after = key_of after known in
      let kept = order-kept items after in
      rw is_new (record {
        chain = rw (nexts, is_new) (insert-chain grouped.chain after (get_or (nexts_of places) after 0) known (next_is grouped.chain after known));
        len = omega (arith, len, grouped.len, after_len);
        groups_numbered = grouped.groups_numbered;
        groups_listing = grouped.groups_listing;
        few_groups = grouped.few_groups;
        rising = rw keys (insert-rising (keys_of order places) items after key grouped.chain.numbered listing grouped.rising known (omega (arith, key_after)) (omega (arith, key_after, below)));
        known = λ item within. elim (cases_lt item (length items)) [
          | inl old ↦ rw (old_group item old) (grouped.known item old)
          | inr last ↦
              let is : item ≡ length items = omega (arith, after_len) in
              rw (is, new_group) (grouped.known after known)
        ];
        small = λ item within. elim (cases_lt item (length items)) [
          | inl old ↦ rw (old_local item old) (grouped.small item old)
          | inr last ↦
              let is : item ≡ length items = omega (arith, after_len) in
              rw (is, new_local) fits
        ];
        firsts_len = grouped.firsts_len;
        first_known = λ other within. omega (arith, grouped.first_known other within, after_len);
        first_in = λ other within. old_group (get_or firsts other 0) (grouped.first_known other within) ∙ grouped.first_in other within;
        first_first = λ item within. elim (cases_lt item (length items)) [
          | inl old ↦
              let first = get_or firsts (get_or (groups_of places) item 0) 0 in
              let order_is = kept item first listing known old (grouped.first_known (get_or (groups_of places) item 0) (grouped.known item old)) in
              rw (old_group item old) (elim (cases_lt (place_of item (insert items (place_of after items + 1) (length items))) (place_of first (insert items (place_of after items + 1) (length items)))) [
                | inl l ↦ absurd (omega (arith, order_is.0 l, grouped.first_first item old))
                | inr le ↦ le
              ])
          | inr last ↦
              let is : item ≡ length items = omega (arith, after_len) in
              let first = get_or firsts group 0 in
              let first_known = grouped.first_known group (grouped.known after known) in
              let order_is = kept after first listing known known first_known in
              rw (is, new_group) (elim (cases_lt (place_of after (insert items (place_of after items + 1) (length items))) (place_of first (insert items (place_of after items + 1) (length items)))) [
                | inl l ↦ absurd (omega (arith, order_is.0 l, grouped.first_first after known))
                | inr le ↦ omega (arith, le, item-stays items after listing known, new-behind items after grouped.chain.numbered listing known)
              ])
        ];
      })

  -- what it does to the keys along the items
  module _ (new : List Place) (after ahead number : ℕ) (known : after < length items) (is_new : number ≡ length items) (len : length new ≡ length places + 1) (groups : groups_of new ≡ groups_of places ++ get_or (groups_of places) after 0 ∷ []) (locals : locals_of new ≡ locals_of places ++ (get_or (locals_of places) after 0 + ahead) ∷ []) where
    abbrev later : List ℕ
    later = insert items (place_of after items + 1) number

    abbrev new_key : ℕ
    new_key = place_of (get_or (groups_of places) after 0) order * group_width + (get_or (locals_of places) after 0 + ahead)

    keys_now : keys_of order new ≡ keys_of order places ++ new_key ∷ []
    keys_now = keys-tied order places new (get_or (groups_of places) after 0) (get_or (locals_of places) after 0 + ahead) len groups locals

    labels_now : labels_along (keys_of order new) later ≡ insert (labels_along (keys_of order places) items) (place_of after items + 1) new_key
    labels_now =
        rw (keys_now, is_new) (labels_along-insert (keys_of order places) items (place_of after items + 1) new_key (omega (arith, grouped.chain.listing after known)) grouped.rising.labels_len grouped.chain.numbered)

    read_now : (place : ℕ) → (place ≡ place_of after items + 1 → get_or (labels_along (keys_of order new) later) place 0 ≡ new_key) × (place_of after items + 1 < place → get_or (labels_along (keys_of order new) later) place 0 ≡ get_or (labels_along (keys_of order places) items) (place - 1) 0)
    read_now place =
        let read = inserted-read (labels_along (keys_of order places) items) (place_of after items + 1) new_key place (omega (arith, grouped.chain.listing after known, length-labels_along (keys_of order places) items)) in
        rw labels_now (read.1, read.2)

    -- `ahead` places lie before it
    pub room-before : (get_or (locals_of places) after 0 + ahead < group_width) → (get_or (locals_of new) after 0 + ahead < group_width) × (get_or (keys_of order new) after 0 + ahead ≤ get_or (labels_along (keys_of order new) later) (place_of after later + 1) 0)
    room-before fits =
        let local = rw (← locals) at (get_or_append_left (locals_of places) ((get_or (locals_of places) after 0 + ahead) ∷ []) 0 after (omega (arith, length-locals places, grouped.len))) in
        let key = rw (← keys_now) at (get_or_append_left (keys_of order places) (new_key ∷ []) 0 after (omega (arith, length-keys places order, grouped.len))) in
        let stays : place_of after later ≡ place_of after items = rw is_new (item-stays items after grouped.chain.listing known) in (
          omega (arith, local, fits),
          rw stays (omega (arith, key, key_of after known, (read_now (place_of after items + 1)).0 (omega arith))),
        )

    -- and what was free behind them is free behind it
    pub room-behind : (gap : ℕ) → get_or (locals_of places) after 0 + (ahead + gap) < group_width → get_or (keys_of order places) after 0 + (ahead + gap) ≤ get_or (labels_along (keys_of order places) items) (place_of after items + 1) 0 → (get_or (locals_of new) number 0 + gap < group_width) × (get_or (keys_of order new) number 0 + gap ≤ get_or (labels_along (keys_of order new) later) (place_of number later + 1) 0)
    room-behind gap fits free =
        let local = rw (← locals) at (get_or_push (locals_of places) (get_or (locals_of places) after 0 + ahead) 0 number (omega (arith, is_new, length-locals places, grouped.len))) in
        let key = rw (← keys_now) at (get_or_push (keys_of order places) new_key 0 number (omega (arith, is_new, length-keys places order, grouped.len))) in
        let stands : place_of number later ≡ place_of after items + 1 = rw is_new (new-behind items after grouped.chain.numbered grouped.chain.listing known) in
        let back : place_of after items + 1 + 1 - 1 ≡ place_of after items + 1 = omega arith in
        let behind = rw back at ((read_now (place_of after items + 1 + 1)).1 (omega arith)) in (
          omega (arith, local, fits),
          rw stands (omega (arith, key, key_of after known, behind, free)),
        )
