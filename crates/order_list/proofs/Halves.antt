-- Items in groups: a group's items at other places, and half of them in a new group.
use Rattle.std.proofs.Common.{◌≡◌, ℕ, ◌+◌, ◌-◌, ◌*◌, ◌<◌, ◌≤◌, ◌⊎◌, inl, inr, List, [], ◌∷◌, ◌++◌, length, get_or, insert, ap, sym, ◌∙◌, arith}
use Rattle.std.proofs.lemmas.Bool.{cases_lt}
use Rattle.std.proofs.lemmas.List.{get_or_append_left, get_or_push, length_push}
use Rattle.std.proofs.lemmas.List.Edits.{length-insert}
use Rattle.std.proofs.lemmas.List.Kept.{AllPairs-from_increasing}
use Rattle.order_list.specs.Order.{place_of, most_items}
use Rattle.order_list.specs.Ring.{IsChain}
use Rattle.order_list.specs.Labels.{labels_along, IsRising}
use Rattle.order_list.specs.Places.{group_width, groups_of, locals_of, nexts_of, keys_of, IsGrouped, IsGroupRow, IsEvened}
use Rattle.order_list.specs.declared.place.Place.{Place}
use Rattle.order_list.proofs.Places.{place-below, place-above}
use Rattle.order_list.proofs.Insertions.{new-behind, insert-numbered, insert-listing}
use Rattle.order_list.proofs.Rings.{item_at}
use Rattle.order_list.proofs.Rises.{length-labels_along, label_of, label_past}
use Rattle.order_list.proofs.Groupings.{IsBetween, evened-room, length-keys, label_is, evened-rising, group_inside, group_before, group_behind, moved-small, group_known, key_is, ranks-rise, between-same}

-- each item of a row is in the group now, and each other one where it was
moved : (next items : List ℕ) → IsChain next items → (old new : List Place) (start count group gap bound : ℕ) → IsEvened old new (record { items = items; start = start; group = group; gap = gap }) count bound → (item : ℕ) → item < length items → ((start ≤ place_of item items) × (place_of item items < start + count) × (get_or (groups_of new) item 0 ≡ group)) ⊎ (get_or (groups_of new) item 0 ≡ get_or (groups_of old) item 0)
moved next items chain old new start count group gap bound e item known =
    elim (cases_lt (place_of item items) start) [
      | inl l ↦ inr (group_before next items chain old new start count group gap bound e item known l)
      | inr from ↦ elim (cases_lt (place_of item items) (start + count)) [
        | inl to ↦ inl (from, to, group_inside next items chain old new start count group gap bound e item known from to)
        | inr l ↦ inr (group_behind next items chain old new start count group gap bound e item known l)
      ]
    ]

module _ {order firsts : List ℕ} {places : List Place} {items : List ℕ} (grouped : IsGrouped order firsts places items) (group : ℕ) (known : group < length order) where
  -- all items of a group at other places of it
  pub evened : (new : List Place) (count gap bound : ℕ) → IsGroupRow places items (get_or firsts group 0) count → IsEvened places new (record { items = items; start = place_of (get_or firsts group 0) items; group = group; gap = gap }) count bound → 0 < gap → bound < group_width → IsGrouped order firsts new items
  evened new count gap bound row e some fits =
      let start = place_of (get_or firsts group 0) items in
      let same : (item : ℕ) → item < length items → get_or (groups_of new) item 0 ≡ get_or (groups_of places) item 0 = λ item inside.
      elim (moved (nexts_of places) items grouped.chain places new start count group gap bound e item inside) [
        | inl w ↦ w.2 ∙ sym (rw (item_at grouped.chain item inside) at (row.same (place_of item items) w.0 w.1) ∙ grouped.first_in group known)
        | inr stays ↦ stays
      ] in
      record {
        chain = rw e.nexts grouped.chain;
        len = e.len ∙ grouped.len;
        groups_numbered = grouped.groups_numbered;
        groups_listing = grouped.groups_listing;
        few_groups = grouped.few_groups;
        rising = evened-rising order places new items start count group gap bound e grouped.len grouped.chain.numbered grouped.rising (between-same grouped group count bound known row fits) some row.row.some row.row.within;
        known = λ item inside. rw (same item inside) (grouped.known item inside);
        small = moved-small (nexts_of places) items grouped.chain places new start count group gap bound e fits some grouped.small;
        firsts_len = grouped.firsts_len;
        first_known = grouped.first_known;
        first_in = λ other inside. same (get_or firsts other 0) (grouped.first_known other inside) ∙ grouped.first_in other inside;
        first_first = λ item inside. rw (same item inside) (grouped.first_first item inside);
      }

  -- an item of the group stands in its row
  in_row : (count : ℕ) → IsGroupRow places items (get_or firsts group 0) count → (item : ℕ) → item < length items → get_or (groups_of places) item 0 ≡ group → (place_of (get_or firsts group 0) items ≤ place_of item items) × (place_of item items < place_of (get_or firsts group 0) items + count)
  in_row count row item inside same =
      let place = place_of item items in
      let end = place_of (get_or firsts group 0) items + count in
      let from = rw same at (grouped.first_first item inside) in
      let far = AllPairs-from_increasing (labels_along (keys_of order places) items) grouped.rising.rises in
      let behind = (between-same grouped group count 4294967295 known row (omega arith)).behind in
      let here = grouped.chain.listing item inside in
      let key = rw (item_at grouped.chain item inside, same) at (key_is grouped place here) in (
        from,
        elim (cases_lt place end) [
          | inl l ↦ l
          | inr past ↦ elim (cases_lt end place) [
            | inl further ↦ absurd (omega (arith, behind, key, far end place 0 further (omega (arith, here, length-labels_along (keys_of order places) items)), grouped.small item inside))
            | inr same_place ↦
                let is : end ≡ place = omega (arith, past, same_place) in
                absurd (omega (arith, rw is at behind, key, grouped.small item inside))
          ]
        ],
      )

  -- so there is room behind it
  pub evened-behind : (new : List Place) (count gap : ℕ) → IsGroupRow places items (get_or firsts group 0) count → IsEvened places new (record { items = items; start = place_of (get_or firsts group 0) items; group = group; gap = gap }) count 4294967295 → (item : ℕ) → item < length items → get_or (groups_of places) item 0 ≡ group → (get_or (locals_of new) item 0 + gap < group_width) × (get_or (keys_of order new) item 0 + gap ≤ get_or (labels_along (keys_of order new) items) (place_of item items + 1) 0)
  evened-behind new count gap row e item inside same =
      let start = place_of (get_or firsts group 0) items in
      let here = in_row count row item inside same in
      let between = between-same grouped group count 4294967295 known row (omega arith) in
      let below = rw (item_at grouped.chain item inside) at (e.below (place_of item items) here.0 here.1) in
      let room = evened-room order places new items start count group gap 4294967295 e grouped.len grouped.chain.numbered between (place_of item items) here.0 here.1 row.row.within in
      let key = label_of (keys_of order new) items item (grouped.chain.listing item inside) in
      (omega (arith, below), omega (arith, room, key))

  -- the groups with a new one behind this one
  abbrev wider : List ℕ
  wider = insert order (place_of group order + 1) (length order)

  behind_within : place_of group order + 1 ≤ length order
  behind_within = omega (arith, grouped.groups_listing group known)

  rank-low : (other : ℕ) → place_of other order ≤ place_of group order → place_of other wider ≡ place_of other order
  rank-low other l = place-below order (place_of group order + 1) (length order) other behind_within (omega arith)

  rank-high : (other : ℕ) → other < length order → place_of group order < place_of other order → place_of other wider ≡ place_of other order + 1
  rank-high other inside l = place-above order (place_of group order + 1) (length order) other behind_within (omega arith) (grouped.groups_listing other inside) (λ e. omega (arith, inside, e))

  rank-new : place_of (length order) wider ≡ place_of group order + 1
  rank-new = new-behind order group grouped.groups_numbered grouped.groups_listing known

  abbrev group_there : ℕ → ℕ
  group_there place = get_or (groups_of places) (get_or items place 0) 0

  key_wider : (place : ℕ) → place < length items → get_or (labels_along (keys_of wider places) items) place 0 ≡ place_of (group_there place) wider * group_width + get_or (locals_of places) (get_or items place 0) 0
  key_wider place within = label_is wider places items place grouped.len grouped.chain.numbered within

  rank-le : (other : ℕ) → other < length order → place_of other wider ≤ most_items
  rank-le other inside =
      elim (cases_lt (place_of group order) (place_of other order)) [
        | inl high ↦ omega (arith, rank-high other inside high, grouped.groups_listing other inside, grouped.few_groups)
        | inr low ↦ omega (arith, rank-low other low, grouped.groups_listing other inside, grouped.few_groups)
      ]

  wider-step : (place : ℕ) → place + 1 < length items → get_or (labels_along (keys_of wider places) items) place 0 < get_or (labels_along (keys_of wider places) items) (place + 1) 0
  wider-step place within =
      let first : place < length items = omega arith in
      let a = group_there place in
      let b = group_there (place + 1) in
      let rises = grouped.rising.rises place (omega (arith, length-labels_along (keys_of order places) items)) in
      let small_a = grouped.small (get_or items place 0) (grouped.chain.numbered place first) in
      let small_b = grouped.small (get_or items (place + 1) 0) (grouped.chain.numbered (place + 1) within) in
      let known_a = group_known grouped place first in
      let known_b = group_known grouped (place + 1) within in
      elim (cases_lt (place_of group order) (place_of a order)) [
        | inl high_a ↦ elim (cases_lt (place_of group order) (place_of b order)) [
          | inl high_b ↦ omega (arith, rises, small_a, small_b, key_is grouped place first, key_is grouped (place + 1) within, key_wider place first, key_wider (place + 1) within, rank-high a known_a high_a, rank-high b known_b high_b)
          | inr low_b ↦ absurd (omega (arith, rises, small_a, small_b, high_a, low_b, key_is grouped place first, key_is grouped (place + 1) within))
        ]
        | inr low_a ↦ elim (cases_lt (place_of group order) (place_of b order)) [
          | inl high_b ↦ omega (arith, rises, small_a, small_b, low_a, high_b, key_wider place first, key_wider (place + 1) within, rank-low a low_a, rank-high b known_b high_b)
          | inr low_b ↦ omega (arith, rises, key_is grouped place first, key_is grouped (place + 1) within, key_wider place first, key_wider (place + 1) within, rank-low a low_a, rank-low b low_b)
        ]
      ]

  wider-rising : IsRising (keys_of wider places) items
  wider-rising = record {
    labels_len = length-keys places wider ∙ grouped.len;
    rises = λ place inner.
        let long = length-labels_along (keys_of wider places) items in
        elim (cases_lt (place + 1) (length items)) [
          | inl within ↦ wider-step place within
          | inr last ↦
              let end : place + 1 ≡ length items = omega arith in
              let first : place < length items = omega arith in
              let past = rw (← end) at (label_past (keys_of wider places) items) in
              omega (arith, past, key_wider place first, rank-le (group_there place) (group_known grouped place first), grouped.small (get_or items place 0) (grouped.chain.numbered place first))
        ];
  }

  between-halved : (count half bound : ℕ) → IsGroupRow places items (get_or firsts group 0) count → 0 < half → half < count → bound < group_width → IsBetween wider places items (place_of (get_or firsts group 0) items + half) (count - half) (length order) bound
  between-halved count half bound row some less fits =
      let start = place_of (get_or firsts group 0) items in
      let last = start + count - 1 in
      let within = row.row.within in
      let in_group : (place : ℕ) → start ≤ place → place < start + count → group_there place ≡ group = λ place from to. row.same place from to ∙ grouped.first_in group known in
      let end : start + half + (count - half) ≡ start + count = omega arith in
      record {
        before = λ place e.
            let inside : place < length items = omega arith in
            let same = in_group place (omega arith) (omega arith) in
            let key = rw same at (key_wider place inside) in
            let small = grouped.small (get_or items place 0) (grouped.chain.numbered place inside) in
            let rank = rank-low group (omega arith) in
            omega (arith, key, small, rank, rank-new);
        behind = rw end (elim (cases_lt (start + count) (length items)) [
          | inl inner ↦
              let back : last + 1 ≡ start + count = omega arith in
              let here = in_group last (omega arith) (omega arith) in
              let ends = row.ends inner in
              let rise = rw (here, back) at (ranks-rise grouped last (omega arith) (λ same. ends (sym (rw back at same) ∙ (here ∙ sym (grouped.first_in group known))))) in
              omega (arith, fits, rank-new, key_wider (start + count) inner, rank-high (group_there (start + count)) (group_known grouped (start + count) inner) rise)
          | inr outer ↦
              let past : start + count ≡ length items = omega arith in
              let key = rw (← past) at (label_past (keys_of wider places) items) in
              omega (arith, key, fits, rank-new, grouped.groups_listing group known, grouped.few_groups)
        ]);
      }

  -- the items of a group's second half in a new group behind it
  pub halved : (new : List Place) (count half middle gap bound : ℕ) → IsGroupRow places items (get_or firsts group 0) count → 0 < half → half < count → middle ≡ get_or items (place_of (get_or firsts group 0) items + half) 0 → IsEvened places new (record { items = items; start = place_of middle items; group = length order; gap = gap }) (count - half) bound → 0 < gap → bound < group_width → length order + 1 ≤ most_items → IsGrouped wider (firsts ++ middle ∷ []) new items
  halved new count half middle gap bound row some less is e0 positive fits few =
      let start = place_of (get_or firsts group 0) items in
      let within : start + half < length items = omega (arith, row.row.within) in
      let middle_at : place_of middle items ≡ start + half = ap (λ x. place_of x items) is ∙ grouped.chain.placed (start + half) within in
      let e = rw middle_at at e0 in
      let where_is = moved (nexts_of places) items grouped.chain places new (start + half) (count - half) (length order) gap bound e in
      let middle_known : middle < length items = rw is (grouped.chain.numbered (start + half) within) in
      let wider_len = length-insert order (place_of group order + 1) (length order) behind_within in
      let old_first : (other : ℕ) → other < length order → get_or (firsts ++ middle ∷ []) other 0 ≡ get_or firsts other 0 = λ other inside. get_or_append_left firsts (middle ∷ []) 0 other (omega (arith, grouped.firsts_len)) in
      let new_first : get_or (firsts ++ middle ∷ []) (length order) 0 ≡ middle = get_or_push firsts middle 0 (length order) grouped.firsts_len in
      record {
        chain = rw e.nexts grouped.chain;
        len = e.len ∙ grouped.len;
        groups_numbered = insert-numbered order group grouped.groups_numbered grouped.groups_listing known;
        groups_listing = insert-listing order group grouped.groups_listing known;
        few_groups = omega (arith, wider_len);
        rising = evened-rising wider places new items (start + half) (count - half) (length order) gap bound e grouped.len grouped.chain.numbered wider-rising (between-halved count half bound row some less fits) positive (omega arith) (omega (arith, row.row.within));
        known = λ item inside. elim (where_is item inside) [
          | inl w ↦ omega (arith, w.2, wider_len)
          | inr stays ↦ omega (arith, stays, wider_len, grouped.known item inside)
        ];
        small = moved-small (nexts_of places) items grouped.chain places new (start + half) (count - half) (length order) gap bound e fits positive grouped.small;
        firsts_len = length_push firsts middle ∙ (ap (λ n. n + 1) grouped.firsts_len ∙ sym wider_len);
        first_known = λ other inside. elim (cases_lt other (length order)) [
          | inl old ↦ rw (old_first other old) (grouped.first_known other old)
          | inr last ↦
              let is_new : other ≡ length order = omega (arith, wider_len) in
              rw (is_new, new_first) middle_known
        ];
        first_in = λ other inside. elim (cases_lt other (length order)) [
          | inl old ↦ rw (old_first other old) (elim (where_is (get_or firsts other 0) (grouped.first_known other old)) [
            | inl w ↦
                let here = rw (item_at grouped.chain (get_or firsts other 0) (grouped.first_known other old)) at (row.same (place_of (get_or firsts other 0) items) (omega (arith, w.0)) (omega (arith, w.1))) in
                let same : other ≡ group = sym (grouped.first_in other old) ∙ (here ∙ grouped.first_in group known) in
                absurd (omega (arith, rw same at (w.0)))
            | inr stays ↦ stays ∙ grouped.first_in other old
          ])
          | inr last ↦
              let is_new : other ≡ length order = omega (arith, wider_len) in
              rw (is_new, new_first) (elim (where_is middle middle_known) [
                | inl w ↦ w.2
                | inr stays ↦ group_inside (nexts_of places) items grouped.chain places new (start + half) (count - half) (length order) gap bound e middle middle_known (omega (arith, middle_at)) (omega (arith, middle_at))
              ])
        ];
        first_first = λ item inside. elim (where_is item inside) [
          | inl w ↦ rw (w.2, new_first, middle_at) (w.0)
          | inr stays ↦ rw (stays, old_first (get_or (groups_of places) item 0) (grouped.known item inside)) (grouped.first_first item inside)
        ];
      }
