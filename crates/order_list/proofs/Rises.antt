-- Labels that rise along a list of items: what they say of positions, and what stays so once one is added or changed.
use Rattle.std.proofs.Common.{◌≡◌, ◌↔◌, ℕ, ◌+◌, ◌-◌, ◌<◌, ◌≤◌, refl, List, [], ◌∷◌, ◌++◌, slice_index, map, length, get_or, set, insert, ap, sym, ◌∙◌, arith}
use Rattle.std.specs.List.Sorted.{IsStrictlyIncreasing}
use Rattle.std.proofs.lemmas.List.{get_or-map, get_or_append_left, get_or_push, get_or-set_other, length-map, length-set, length_push}
use Rattle.std.proofs.lemmas.Grind.{get_or-set_at, same_number_lists}
use Rattle.std.proofs.lemmas.List.Edits.{length-insert}
use Rattle.std.proofs.lemmas.List.Kept.{AllPairs-from_increasing}
use Rattle.order_list.specs.Order.{place_of, IsNumbered, IsListing}
use Rattle.order_list.specs.Labels.{labels_along, last_label, IsRising}
use Rattle.order_list.proofs.Places.{get_or-place_of, inserted-read}

module _ (labels items : List ℕ) where
  pub length-labels_along : length (labels_along labels items) ≡ length items + 1
  unfolding labels_along
  length-labels_along = length_push (map (slice_index labels) items) last_label ∙ ap (λ n. n + 1) (length-map items (slice_index labels))

  pub label_at : (place : ℕ) → place < length items → get_or (labels_along labels items) place 0 ≡ get_or labels (get_or items place 0) 0
  unfolding labels_along
  label_at place within =
      get_or_append_left (map (slice_index labels) items) (last_label ∷ []) 0 place (omega (arith, length-map items (slice_index labels)))
      ∙ get_or-map (slice_index labels) items place 0 0 within

  pub label_past : get_or (labels_along labels items) (length items) 0 ≡ last_label
  unfolding labels_along
  label_past = get_or_push (map (slice_index labels) items) last_label 0 (length items) (length-map items (slice_index labels))

  pub label_of : (item : ℕ) → place_of item items < length items → get_or (labels_along labels items) (place_of item items) 0 ≡ get_or labels item 0
  label_of item within = label_at (place_of item items) within ∙ ap (λ x. get_or labels x 0) (get_or-place_of item items within)

  pub label-rises : IsListing items → IsRising labels items → (item : ℕ) → item < length items → get_or labels item 0 < get_or (labels_along labels items) (place_of item items + 1) 0
  label-rises listing rising item known =
      omega (arith, rising.rises (place_of item items) (omega (arith, listing item known, length-labels_along)), label_of item (listing item known))

  -- labels compare as positions do
  pub label-lt : IsListing items → IsRising labels items → (a b : ℕ) → a < length items → b < length items → (get_or labels a 0 < get_or labels b 0) ↔ (place_of a items < place_of b items)
  label-lt listing rising a b known_a known_b =
      let far = AllPairs-from_increasing (labels_along labels items) rising.rises in
      let place_a = place_of a items in
      let place_b = place_of b items in
      grind (arith, far place_a place_b 0, far place_b place_a 0, listing a, listing b, length-labels_along, label_of a, label_of b)

-- a new item is put in at a position
pub labels_along-insert : (labels items : List ℕ) (at_place label : ℕ) → at_place ≤ length items → length labels ≡ length items → IsNumbered items → labels_along (labels ++ label ∷ []) (insert items at_place (length items)) ≡ insert (labels_along labels items) at_place label
labels_along-insert labels items at_place label within len numbered =
    let new = length items in
    let after = insert items at_place new in
    let labels_after = labels ++ label ∷ [] in
    let items_len = length-insert items at_place new within in
    let old_len = length-labels_along labels items in
    let after_len = length-insert (labels_along labels items) at_place label (omega arith) in
    same_number_lists _ _ (omega (arith, length-labels_along labels_after after)) (λ place l.
    grind (arith, length-labels_along labels_after after, label_at labels_after after place, label_past labels_after after, inserted-read items at_place new place within, inserted-read (labels_along labels items) at_place label place, label_at labels items place, label_at labels items (place - 1), label_past labels items, get_or_append_left labels (label ∷ []) 0 (get_or items place 0), get_or_append_left labels (label ∷ []) 0 (get_or items (place - 1) 0), get_or_push labels label 0 new len, numbered place, numbered (place - 1)))

-- the item at one position is given another label
pub labels_along-set : (labels items : List ℕ) (place label : ℕ) → place < length items → length labels ≡ length items → IsNumbered items → ((other : ℕ) → other < length items → get_or items other 0 ≡ get_or items place 0 → other ≡ place) → labels_along (set labels (get_or items place 0) label) items ≡ set (labels_along labels items) place label
labels_along-set labels items place label within len numbered apart =
    let after = set labels (get_or items place 0) label in
    let old_len = length-labels_along labels items in
    let after_len = length-labels_along after items in
    same_number_lists _ _ (after_len ∙ (sym old_len ∙ sym (length-set (labels_along labels items) place label))) (λ other l.
    grind (arith, label_at after items other, label_past after items, label_at labels items other, label_past labels items, get_or-set_at labels (get_or items place 0) (get_or items other 0) label 0, get_or-set_other labels (get_or items place 0) (get_or items other 0) label 0, get_or-set_at (labels_along labels items) place other label 0, get_or-set_other (labels_along labels items) place other label 0, numbered place, apart other))

IsStrictlyIncreasing-insert : (xs : List ℕ) (place x : ℕ) → IsStrictlyIncreasing xs → place + 1 < length xs → get_or xs place 0 < x → x < get_or xs (place + 1) 0 → IsStrictlyIncreasing (insert xs (place + 1) x)
IsStrictlyIncreasing-insert xs place x rises inner low high k within =
    grind (arith, length-insert xs (place + 1) x, inserted-read xs (place + 1) x k, inserted-read xs (place + 1) x (k + 1), rises k, rises (k - 1))

-- item 0 alone
pub rising-one : IsRising (0 ∷ []) (0 ∷ [])
unfolding labels_along
rising-one = record { labels_len = refl; rises = λ place within. let zeroth : place ≡ 0 = omega arith in rw zeroth (omega arith) }

-- a new item behind `item` gets a label between its and the next one
pub insert-rising : (labels items : List ℕ) (item label : ℕ) → IsNumbered items → IsListing items → IsRising labels items → item < length items → get_or labels item 0 < label → label < get_or (labels_along labels items) (place_of item items + 1) 0 → IsRising (labels ++ label ∷ []) (insert items (place_of item items + 1) (length items))
insert-rising labels items item label numbered listing rising known low high =
    let within : place_of item items + 1 ≤ length items = omega (arith, listing item known) in
    record {
      labels_len = length_push labels label ∙ (ap (λ n. n + 1) rising.labels_len ∙ sym (length-insert items (place_of item items + 1) (length items) within));
      rises = rw (labels_along-insert labels items (place_of item items + 1) label within rising.labels_len numbered)
          (IsStrictlyIncreasing-insert (labels_along labels items) (place_of item items) label rising.rises (omega (arith, length-labels_along labels items)) (omega (arith, label_of labels items item (listing item known))) high);
    }
