-- Stretches of a ring as they grow, and as they are given new labels.
use Rattle.std.proofs.Common.{◌≡◌, ℕ, ◌+◌, ◌<◌, ◌≤◌, inl, inr, List, length, get_or, set, ap, sym, ◌∙◌, arith}
use Rattle.std.proofs.lemmas.Bool.{cases_lt}
use Rattle.std.proofs.lemmas.List.{get_or_past}
use Rattle.order_list.specs.Order.{place_of, most_items}
use Rattle.order_list.specs.Ring.{IsChain}
use Rattle.order_list.specs.Labels.{labels_along, last_label, IsStretch, IsRoom}
use Rattle.order_list.specs.declared.relabel.Stretch.{Stretch}
use Rattle.order_list.proofs.Places.{place_of-le}
use Rattle.order_list.proofs.Rings.{apart, known_at, past_end}
use Rattle.order_list.proofs.Rises.{label_at, label_past, labels_along-set, length-labels_along}
use Rattle.order_list.proofs.Spreads.{IsSpread, spread-more}

module _ {next items : List ℕ} (ring : IsChain next items) where
  -- the label at a position that item 0 follows, or another item
  pub label-end : (labels : List ℕ) (place : ℕ) → 0 < place → place ≤ length items → get_or items place 0 ≡ 0 → get_or (labels_along labels items) place 0 ≡ last_label
  label-end labels place positive within none = rw (past_end ring place positive within none) (label_past labels items)

  pub label-inner : (labels : List ℕ) (place item : ℕ) → 0 < item → item ≡ get_or items place 0 → get_or (labels_along labels items) place 0 ≡ get_or labels item 0
  label-inner labels place item some is = grind (arith, label_at labels items place, get_or_past items place 0)

  -- a stretch that an item follows, other than item 0, leaves that item out
  pub goes-on : (stretch : Stretch) → IsStretch items stretch → 0 < stretch.end → (place_of stretch.first items + stretch.count < length items) × (stretch.end < length items)
  goes-on stretch s some =
      let place = place_of stretch.first items + stretch.count in
      let inside : place < length items = elim (cases_lt place (length items)) [
        | inl within ↦ within
        | inr outer ↦ absurd (omega (arith, some, s.end_is, get_or_past items place 0 outer))
      ] in
      (inside, rw s.end_is (known_at ring place s.within))

  -- it takes in that item
  pub stretch-ahead : (stretch : Stretch) (following : ℕ) → IsStretch items stretch → 0 < stretch.end → following ≡ get_or items (place_of stretch.end items + 1) 0 → IsStretch items (record { item = stretch.item; first = stretch.first; end = following; count = stretch.count + 1 })
  stretch-ahead stretch following s some follows =
      let place = place_of stretch.first items + stretch.count in
      let inside = (goes-on stretch s some).0 in
      let end : place_of stretch.end items ≡ place = ap (λ item. place_of item items) s.end_is ∙ ring.placed place inside in
      record {
        first_known = s.first_known;
        end_is = follows ∙ ap (λ at_place. get_or items at_place 0) (omega (arith, end));
        within = omega (arith, inside);
        from = s.from;
        to = omega (arith, s.to);
      }

  -- all items
  pub stretch-whole : (item : ℕ) → item < length items → IsStretch items (record { item = item; first = 0; end = 0; count = length items })
  stretch-whole item known =
      let first : place_of 0 items ≡ 0 = omega (arith, place_of-le 0 items 0 ring.begins) in
      record {
        first_known = ring.not_empty;
        end_is = sym (get_or_past items (place_of 0 items + length items) 0 (omega arith));
        within = omega (arith, first);
        from = omega (arith, first);
        to = omega (arith, ring.listing item known);
      }

  -- and all labels
  pub room-whole : (labels : List ℕ) (item : ℕ) → length items ≤ most_items → IsRoom labels items (record { item = item; first = 0; end = 0; count = length items }) (record { low = 0; high = 18446744073709551615; free = 0 })
  room-whole labels item few =
      let first : place_of 0 items ≡ 0 = omega (arith, place_of-le 0 items 0 ring.begins) in
      let end : place_of 0 items + length items ≡ length items = omega (arith, first) in
      record {
        before = λ place e. absurd (omega (arith, first, e));
        behind = rw end (omega (arith, label_past labels items));
        fits = omega (arith, few);
      }

  -- the next item of a stretch is given the next label
  pub spread-step : (old labels : List ℕ) (start count low bound further item : ℕ) → IsSpread (labels_along old items) (labels_along labels items) start count low bound → length labels ≡ length items → start + count < length items → item ≡ get_or items (start + count) 0 → bound + 2 ≤ further → IsSpread (labels_along old items) (labels_along (set labels item bound) items) start (count + 1) low further
  spread-step old labels start count low bound further item spread len within is more =
      let place = start + count in
      rw (is, labels_along-set labels items place bound within len ring.numbered (λ other known e. apart ring other place known within e))
      (spread-more _ _ start count low bound further spread (omega (arith, length-labels_along labels items)) more)

-- a stretch takes in the item that its first one follows
pub stretch-back : (items : List ℕ) (stretch : Stretch) (before : ℕ) → IsStretch items stretch → before < length items → place_of before items + 1 ≡ place_of stretch.first items → IsStretch items (record { item = stretch.item; first = before; end = stretch.end; count = stretch.count + 1 })
stretch-back items stretch before s known follows =
    record {
      first_known = known;
      end_is = s.end_is ∙ ap (λ at_place. get_or items at_place 0) (omega (arith, follows));
      within = omega (arith, s.within, follows);
      from = omega (arith, s.from, follows);
      to = omega (arith, s.to, follows);
    }
