-- Items in groups: what stands from an item of a group on, and a new group of it.
use Rattle.std.proofs.Common.{◌≡◌, ◌≢◌, inl, inr, ℕ, ◌+◌, ◌-◌, ◌<◌, ◌≤◌, List, [], ◌∷◌, ◌++◌, length, get_or, insert, ap, sym, ◌∙◌, arith}
use Rattle.std.proofs.lemmas.Bool.{cases_lt}
use Rattle.std.proofs.lemmas.List.Kept.{AllPairs-from_increasing}
use Rattle.order_list.specs.Order.{place_of, most_items}
use Rattle.order_list.specs.Labels.{labels_along}
use Rattle.order_list.specs.Places.{group_width, groups_of, keys_of, IsGrouped, IsGroupRow, IsEvened}
use Rattle.order_list.specs.declared.place.Place.{Place}
use Rattle.order_list.proofs.Rings.{item_at}
use Rattle.order_list.proofs.Rises.{length-labels_along}
use Rattle.order_list.proofs.Groupings.{group_known, key_is, one-group, first_at}
use Rattle.order_list.proofs.Halves.{halved}

module _ {order firsts : List ℕ} {places : List Place} {items : List ℕ} (grouped : IsGrouped order firsts places items) where
  -- the rest of a row of a group, from a later item on
  pub row-later : (begin count half : ℕ) → IsGroupRow places items begin count → half < count →
      IsGroupRow places items (get_or items (place_of begin items + half) 0) (count - half)
  row-later begin count half row less =
      let start = place_of begin items in
      let within : start + half < length items = omega (arith, row.row.within) in
      let at = grouped.chain.placed (start + half) within in
      let same = row.same (start + half) (omega arith) (omega arith) in
      let end : start + half + (count - half) ≡ start + count = omega arith in
      record {
        row = record { known = grouped.chain.numbered (start + half) within; some = omega arith; within = omega (arith, at, row.row.within) };
        same = λ place from to. row.same place (omega (arith, from, at)) (omega (arith, to, at)) ∙ sym same;
        ends = rw (at, end, same) (row.ends);
      }

  -- and its group is that of the row
  pub group-later : (begin count half : ℕ) → IsGroupRow places items begin count → half < count →
      get_or (groups_of places) (get_or items (place_of begin items + half) 0) 0 ≡ get_or (groups_of places) begin 0
  group-later begin count half row less = row.same (place_of begin items + half) (omega arith) (omega arith)

  module _ (begin count group : ℕ) (row : IsGroupRow places items begin count) (is : get_or (groups_of places) begin 0 ≡ group) where
    known : group < length order
    known = rw (← is) (grouped.known begin row.row.known)

    start : ℕ
    start = place_of (get_or firsts group 0) items

    from-first : place_of (get_or firsts group 0) items ≤ place_of begin items
    from-first = rw is at (grouped.first_first begin row.row.known)

    -- what stands between two items of a group is of it
    between : (place : ℕ) → place_of (get_or firsts group 0) items ≤ place → place < place_of begin items → get_or (groups_of places) (get_or items place 0) 0 ≡ group
    between place from to =
        let here = grouped.chain.listing begin row.row.known in
        let within : place < length items = omega arith in
        let far = AllPairs-from_increasing (labels_along (keys_of order places) items) grouped.rising.rises in
        let long = length-labels_along (keys_of order places) items in
        let there = rw (item_at grouped.chain begin row.row.known, is) at (key_is grouped (place_of begin items) here) in
        let above = far place (place_of begin items) 0 to (omega (arith, here, long)) in
        let key = key_is grouped place within in
        let small = grouped.small (get_or items place 0) (grouped.chain.numbered place within) in
        let small_begin = grouped.small begin row.row.known in
        elim (cases_lt (place_of (get_or firsts group 0) items) place) [
          | inl later ↦
              let first = rw (first_at grouped group known) at (key_is grouped (place_of (get_or firsts group 0) items) (omega arith)) in
              let below = far (place_of (get_or firsts group 0) items) place 0 later (omega (arith, within, long)) in
              one-group order _ _ grouped.groups_listing (group_known grouped place within) known (omega (arith, first, below, key, above, there, small, small_begin))
          | inr at ↦
              let same : place ≡ place_of (get_or firsts group 0) items = omega (arith, from, at) in
              rw same (first_at grouped group known)
        ]

    whole : IsGroupRow places items (get_or firsts group 0) (place_of begin items - place_of (get_or firsts group 0) items + count)
    whole =
        let first_is = grouped.first_in group known in
        let end : place_of (get_or firsts group 0) items + (place_of begin items - place_of (get_or firsts group 0) items + count) ≡ place_of begin items + count = omega (arith, from-first) in
        record {
          row = record { known = grouped.first_known group known; some = omega (arith, row.row.some); within = omega (arith, end, row.row.within) };
          same = λ place from to. rw first_is (elim (cases_lt place (place_of begin items)) [
            | inl before ↦ between place from before
            | inr behind ↦ row.same place behind (omega (arith, end, to)) ∙ is
          ]);
          ends = rw (end, first_is, ← is) (row.ends);
        }

    -- these items in a new group behind that which they were in, of which others are left
    pub parted : (new : List Place) (gap bound : ℕ) → begin ≢ get_or firsts group 0 → IsEvened places new (record { items = items; start = place_of begin items; group = length order; gap = gap }) count bound →
        0 < gap → bound < group_width → length order + 1 ≤ most_items →
        IsGrouped (insert order (place_of group order + 1) (length order)) (firsts ++ begin ∷ []) new items
    parted new gap bound other e positive fits few =
        let half = place_of begin items - place_of (get_or firsts group 0) items in
        let apart : place_of (get_or firsts group 0) items ≢ place_of begin items = λ same. other (sym (item_at grouped.chain begin row.row.known) ∙ (ap (λ place. get_or items place 0) (sym same) ∙ item_at grouped.chain (get_or firsts group 0) (grouped.first_known group known))) in
        let place : place_of (get_or firsts group 0) items + half ≡ place_of begin items = omega (arith, from-first) in
        let left : half + count - half ≡ count = omega arith in
        halved grouped group known new (half + count) half begin gap bound whole (omega (arith, apart, from-first)) (omega (arith, row.row.some))
        (rw place (sym (item_at grouped.chain begin row.row.known))) (rw left e) positive fits few
