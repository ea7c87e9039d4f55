-- Items in groups: their keys, and what stays so once items are moved to other places or groups.
use Rattle.std.proofs.Common.{◌≡◌, ◌≢◌, ℕ, ◌+◌, ◌-◌, ◌*◌, ◌<◌, ◌≤◌, refl, inl, inr, List, [], ◌∷◌, ◌++◌, length, get_or, set, ap, sym, ◌∙◌, arith}
use Rattle.std.proofs.lemmas.Bool.{cases_lt, cases_eq}
use Rattle.std.proofs.lemmas.List.{get_or-map, map-set, map-append, set-get_or, get_or_append_left, get_or-set_same, get_or-set_other, length-map}
use Rattle.order_list.specs.Order.{place_of, IsNumbered, IsListing}
use Rattle.order_list.specs.Labels.{labels_along, IsRising}
use Rattle.order_list.specs.Ring.{IsChain}
use Rattle.order_list.specs.Places.{group_width, groups_of, locals_of, nexts_of, keys_of, IsGrouped, IsGroupRow, IsEvened}
use Rattle.order_list.specs.declared.place.Place.{Place}
use Rattle.order_list.proofs.Places.{get_or-place_of, place_of-le}
use Rattle.order_list.proofs.Rings.{item_at, apart, chain-one}
use Rattle.order_list.proofs.Rises.{length-labels_along, label_at, label_past, rising-one}

-- what no item has
abbrev pub no_place : Place
no_place = record { local = 0; group = 0; next = 0 }

module _ (places : List Place) where
  pub length-groups : length (groups_of places) ≡ length places
  unfolding groups_of
  length-groups = length-map places (λ place. place.group)

  pub length-locals : length (locals_of places) ≡ length places
  unfolding locals_of
  length-locals = length-map places (λ place. place.local)

  pub length-nexts : length (nexts_of places) ≡ length places
  unfolding nexts_of
  length-nexts = length-map places (λ place. place.next)

  pub length-keys : (order : List ℕ) → length (keys_of order places) ≡ length places
  unfolding keys_of
  length-keys order = length-map places (λ place. place_of place.group order * group_width + place.local)

  pub group_read_at : (item : ℕ) → item < length places → get_or (groups_of places) item 0 ≡ (get_or places item no_place).group
  unfolding groups_of
  group_read_at item within = get_or-map (λ (place : Place). place.group) places item no_place 0 within

  pub local_read_at : (item : ℕ) → item < length places → get_or (locals_of places) item 0 ≡ (get_or places item no_place).local
  unfolding locals_of
  local_read_at item within = get_or-map (λ (place : Place). place.local) places item no_place 0 within

  pub next_read_at : (item : ℕ) → item < length places → get_or (nexts_of places) item 0 ≡ (get_or places item no_place).next
  unfolding nexts_of
  next_read_at item within = get_or-map (λ (place : Place). place.next) places item no_place 0 within

  -- an item's key, by its group and its place there
  pub key_at : (order : List ℕ) (item : ℕ) → item < length places → get_or (keys_of order places) item 0 ≡ place_of (get_or (groups_of places) item 0) order * group_width + get_or (locals_of places) item 0
  unfolding keys_of
  key_at order item within =
      rw (group_read_at item within, local_read_at item within) (get_or-map (λ (place : Place). place_of place.group order * group_width + place.local) places item no_place 0 within)

-- the lists of places once one is written
pub set_locals : (places : List Place) (item : ℕ) (place : Place) → locals_of (set places item place) ≡ set (locals_of places) item place.local
unfolding locals_of
set_locals places item place = map-set (λ (other : Place). other.local) places item place

pub set_groups : (places : List Place) (item : ℕ) (place : Place) → groups_of (set places item place) ≡ set (groups_of places) item place.group
unfolding groups_of
set_groups places item place = map-set (λ (other : Place). other.group) places item place

pub set_nexts : (places : List Place) (item : ℕ) (place : Place) → nexts_of (set places item place) ≡ set (nexts_of places) item place.next
unfolding nexts_of
set_nexts places item place = map-set (λ (other : Place). other.next) places item place

pub next_kept : (places : List Place) (item local group : ℕ) → item < length places → nexts_of (set places item (record { local = local; group = group; next = (get_or places item no_place).next })) ≡ nexts_of places
next_kept places item local group within =
    set_nexts places item (record { local = local; group = group; next = (get_or places item no_place).next })
    ∙ (ap (λ x. set (nexts_of places) item x) (sym (next_read_at places item within)) ∙ set-get_or (nexts_of places) item 0)

-- and pushed
pub push_locals : (places : List Place) (place : Place) → locals_of (places ++ place ∷ []) ≡ locals_of places ++ place.local ∷ []
unfolding locals_of
push_locals places place = map-append (λ (other : Place). other.local) places (place ∷ [])

pub push_groups : (places : List Place) (place : Place) → groups_of (places ++ place ∷ []) ≡ groups_of places ++ place.group ∷ []
unfolding groups_of
push_groups places place = map-append (λ (other : Place). other.group) places (place ∷ [])

pub push_nexts : (places : List Place) (place : Place) → nexts_of (places ++ place ∷ []) ≡ nexts_of places ++ place.next ∷ []
unfolding nexts_of
push_nexts places place = map-append (λ (other : Place). other.next) places (place ∷ [])

-- a list in which an item was written again, behind what was pushed
pub set_pushed : (xs : List ℕ) (pushed item y : ℕ) → item < length xs → y ≡ get_or xs item 0 → set (xs ++ pushed ∷ []) item y ≡ xs ++ pushed ∷ []
set_pushed xs pushed item y known same =
    let is : y ≡ get_or (xs ++ pushed ∷ []) item 0 = same ∙ sym (get_or_append_left xs (pushed ∷ []) 0 item known) in
    rw is (set-get_or (xs ++ pushed ∷ []) item 0)

-- and both: a new place is pushed, and the one before it points to it
module _ (places : List Place) (after ahead number : ℕ) (here : Place) (within : after < length places) (here_is : here ≡ get_or places after no_place) where
  abbrev tied_new : Place
  tied_new = record { local = here.local + ahead; group = here.group; next = here.next }

  abbrev tied_old : Place
  tied_old = record { local = here.local; group = here.group; next = number }

  pub tied-locals : locals_of (set (places ++ tied_new ∷ []) after tied_old) ≡ locals_of places ++ (get_or (locals_of places) after 0 + ahead) ∷ []
  tied-locals =
      let is : here.local ≡ get_or (locals_of places) after 0 = ap (λ (place : Place). place.local) here_is ∙ sym (local_read_at places after within) in
      set_locals (places ++ tied_new ∷ []) after tied_old
      ∙ (ap (λ xs. set xs after here.local) (push_locals places tied_new)
      ∙ (set_pushed (locals_of places) (here.local + ahead) after here.local (omega (arith, length-locals places)) is
      ∙ ap (λ x. locals_of places ++ (x + ahead) ∷ []) is))

  pub tied-groups : groups_of (set (places ++ tied_new ∷ []) after tied_old) ≡ groups_of places ++ get_or (groups_of places) after 0 ∷ []
  tied-groups =
      let is : here.group ≡ get_or (groups_of places) after 0 = ap (λ (place : Place). place.group) here_is ∙ sym (group_read_at places after within) in
      set_groups (places ++ tied_new ∷ []) after tied_old
      ∙ (ap (λ xs. set xs after here.group) (push_groups places tied_new)
      ∙ (set_pushed (groups_of places) here.group after here.group (omega (arith, length-groups places)) is
      ∙ ap (λ x. groups_of places ++ x ∷ []) is))

  pub tied-nexts : nexts_of (set (places ++ tied_new ∷ []) after tied_old) ≡ set (nexts_of places ++ get_or (nexts_of places) after 0 ∷ []) after number
  tied-nexts =
      let is : here.next ≡ get_or (nexts_of places) after 0 = ap (λ (place : Place). place.next) here_is ∙ sym (next_read_at places after within) in
      set_nexts (places ++ tied_new ∷ []) after tied_old
      ∙ ap (λ xs. set xs after number) (push_nexts places tied_new ∙ ap (λ x. nexts_of places ++ x ∷ []) is)

-- the key at a position
pub label_is : (order : List ℕ) (places : List Place) (items : List ℕ) (place : ℕ) → length places ≡ length items → IsNumbered items → place < length items → get_or (labels_along (keys_of order places) items) place 0 ≡ place_of (get_or (groups_of places) (get_or items place 0) 0) order * group_width + get_or (locals_of places) (get_or items place 0) 0
label_is order places items place len numbered within =
    label_at (keys_of order places) items place within ∙ key_at places order (get_or items place 0) (omega (arith, numbered place within, len))

-- two groups have one position only if they are one
pub one-group : (order : List ℕ) (a b : ℕ) → IsListing order → a < length order → b < length order → place_of a order ≡ place_of b order → a ≡ b
one-group order a b listing known_a known_b same =
    sym (get_or-place_of a order (listing a known_a)) ∙ (ap (λ place. get_or order place 0) same ∙ get_or-place_of b order (listing b known_b))

-- places are as many as items
pub chain_len : {items : List ℕ} (places : List Place) → IsChain (nexts_of places) items → length places ≡ length items
chain_len places chain = sym (length-nexts places) ∙ chain.next_len

-- one item's number, group or place is changed
set-read : (next items : List ℕ) → IsChain next items → (xs : List ℕ) (y here place : ℕ) → length xs ≡ length items → here < length items → place < length items → (place ≡ here → get_or (set xs (get_or items here 0) y) (get_or items place 0) 0 ≡ y) × (place ≢ here → get_or (set xs (get_or items here 0) y) (get_or items place 0) 0 ≡ get_or xs (get_or items place 0) 0)
set-read next items chain xs y here place len inside within = (
  λ same. rw same (get_or-set_same xs (get_or items here 0) y 0 (omega (arith, len, chain.numbered here inside))),
  λ other. get_or-set_other xs (get_or items here 0) (get_or items place 0) y 0 (λ e. other (apart chain place here within inside e)),
)

-- the items of a row are moved one after another
pub evened-none : (old : List Place) (items : List ℕ) (start group gap : ℕ) → IsEvened old old (record { items = items; start = start; group = group; gap = gap }) 0 0
evened-none old items start group gap = record {
  len = refl;
  nexts = refl;
  inside = λ place from to. absurd (omega arith);
  steps = λ place from to. absurd (omega arith);
  below = λ place from to. absurd (omega arith);
  groups_before = λ place l. refl;
  locals_before = λ place l. refl;
  groups_behind = λ place l within. refl;
  locals_behind = λ place l within. refl;
}

pub evened-more : (next items : List ℕ) → IsChain next items → (old new more : List Place) (start count group gap bound item : ℕ) → IsEvened old new (record { items = items; start = start; group = group; gap = gap }) count bound → length old ≡ length items → start + count < length items → item ≡ get_or items (start + count) 0 → length more ≡ length new → groups_of more ≡ set (groups_of new) item group → locals_of more ≡ set (locals_of new) item bound → nexts_of more ≡ nexts_of new → IsEvened old more (record { items = items; start = start; group = group; gap = gap }) (count + 1) (bound + gap)
evened-more next items chain old new more start count group gap bound item e len within is more_len groups locals nexts =
    let here = start + count in
    let group_read : (place : ℕ) → place < length items → (place ≡ here → get_or (groups_of more) (get_or items place 0) 0 ≡ group) × (place ≢ here → get_or (groups_of more) (get_or items place 0) 0 ≡ get_or (groups_of new) (get_or items place 0) 0) = λ place known. rw (groups, is) (set-read next items chain (groups_of new) group here place (omega (arith, length-groups new, e.len, len)) within known) in
    let local_read : (place : ℕ) → place < length items → (place ≡ here → get_or (locals_of more) (get_or items place 0) 0 ≡ bound) × (place ≢ here → get_or (locals_of more) (get_or items place 0) 0 ≡ get_or (locals_of new) (get_or items place 0) 0) = λ place known. rw (locals, is) (set-read next items chain (locals_of new) bound here place (omega (arith, length-locals new, e.len, len)) within known) in
    record {
      len = more_len ∙ e.len;
      nexts = nexts ∙ e.nexts;
      inside = λ place from to. elim (cases_eq place here) [
        | inl same ↦ (group_read place (omega arith)).0 same
        | inr other ↦ (group_read place (omega arith)).1 other ∙ e.inside place from (omega (arith, other))
      ];
      steps = λ place from to. elim (cases_eq (place + 1) here) [
        | inl same ↦ omega (arith, (local_read (place + 1) (omega arith)).0 same, (local_read place (omega arith)).1 (omega arith), e.below place from (omega arith))
        | inr other ↦ omega (arith, (local_read (place + 1) (omega arith)).1 other, (local_read place (omega arith)).1 (omega (arith, other)), e.steps place from (omega (arith, other)))
      ];
      below = λ place from to. elim (cases_eq place here) [
        | inl same ↦ omega (arith, (local_read place (omega arith)).0 same)
        | inr other ↦ omega (arith, (local_read place (omega arith)).1 other, e.below place from (omega (arith, other)))
      ];
      groups_before = λ place l. (group_read place (omega arith)).1 (omega arith) ∙ e.groups_before place l;
      locals_before = λ place l. (local_read place (omega arith)).1 (omega arith) ∙ e.locals_before place l;
      groups_behind = λ place l known. (group_read place known).1 (omega arith) ∙ e.groups_behind place (omega arith) known;
      locals_behind = λ place l known. (local_read place known).1 (omega arith) ∙ e.locals_behind place (omega arith) known;
    }

-- how the items around a row stand to a group, into which the row is moved
pub record IsBetween (order : List ℕ) (old : List Place) (items : List ℕ) (start count group bound : ℕ) : Type 0 where
  pub before : (place : ℕ) → place + 1 ≡ start → get_or (labels_along (keys_of order old) items) place 0 < place_of group order * group_width
  pub behind : place_of group order * group_width + bound < get_or (labels_along (keys_of order old) items) (start + count) 0

-- items moved between those around them
module _ (order : List ℕ) (old new : List Place) (items : List ℕ) (start count group gap bound : ℕ) (e : IsEvened old new (record { items = items; start = start; group = group; gap = gap }) count bound) (len : length old ≡ length items) (numbered : IsNumbered items) where
  new_len : length new ≡ length items
  new_len = e.len ∙ len

  key_before : (place : ℕ) → place < start → start ≤ length items → get_or (labels_along (keys_of order new) items) place 0 ≡ get_or (labels_along (keys_of order old) items) place 0
  key_before place before within =
      label_is order new items place new_len numbered (omega arith)
      ∙ (rw (e.groups_before place before, e.locals_before place before) refl ∙ sym (label_is order old items place len numbered (omega arith)))

  key_past : (place : ℕ) → start + count ≤ place → place ≤ length items → get_or (labels_along (keys_of order new) items) place 0 ≡ get_or (labels_along (keys_of order old) items) place 0
  key_past place behind within =
      elim (cases_lt place (length items)) [
        | inl inner ↦
            label_is order new items place new_len numbered inner
            ∙ (rw (e.groups_behind place behind inner, e.locals_behind place behind inner) refl ∙ sym (label_is order old items place len numbered inner))
        | inr outer ↦
            let last : place ≡ length items = omega arith in
            rw last (label_past (keys_of order new) items ∙ sym (label_past (keys_of order old) items))
      ]

  pub key_inside : (place : ℕ) → start ≤ place → place < start + count → start + count ≤ length items → get_or (labels_along (keys_of order new) items) place 0 ≡ place_of group order * group_width + get_or (locals_of new) (get_or items place 0) 0
  key_inside place from to within =
      label_is order new items place new_len numbered (omega arith)
      ∙ ap (λ x. place_of x order * group_width + get_or (locals_of new) (get_or items place 0) 0) (e.inside place from to)

  pub evened-rising : IsRising (keys_of order old) items → IsBetween order old items start count group bound → 0 < gap → 0 < count → start + count ≤ length items → IsRising (keys_of order new) items
  evened-rising rising between some positive within =
      record {
        labels_len = length-keys new order ∙ new_len;
        rises = λ place inner.
            let long = length-labels_along (keys_of order new) items in
            let long_old = length-labels_along (keys_of order old) items in
            let before = rising.rises place in
            elim (cases_lt (place + 1) start) [
              | inl early ↦ rw (key_before place (omega arith) (omega arith), key_before (place + 1) early (omega arith)) (rising.rises place (omega arith))
              | inr late ↦ elim (cases_lt place start) [
                | inl last ↦
                    let here : place + 1 ≡ start = omega arith in
                    omega (arith, key_before place last (omega arith), between.before place here, key_inside (place + 1) (omega arith) (omega arith) within)
                | inr from ↦ elim (cases_lt (place + 1) (start + count)) [
                  | inl both ↦
                      omega (arith, key_inside place from (omega arith) within, key_inside (place + 1) (omega arith) both within, e.steps place from both)
                  | inr end ↦ elim (cases_lt place (start + count)) [
                    | inl final ↦
                        let here : place + 1 ≡ start + count = omega arith in
                        omega (arith, key_inside place from final within, e.below place from final, key_past (place + 1) (omega arith) (omega arith), rw (← here) at between.behind)
                    | inr far ↦ rw (key_past place far (omega arith), key_past (place + 1) (omega arith) (omega arith)) (rising.rises place (omega arith))
                  ]
                ]
              ]
            ];
      }

  -- there is so much room behind each of them
  pub evened-room : IsBetween order old items start count group bound → (place : ℕ) → start ≤ place → place < start + count → start + count ≤ length items → get_or (labels_along (keys_of order new) items) place 0 + gap ≤ get_or (labels_along (keys_of order new) items) (place + 1) 0
  evened-room between place from to within =
      elim (cases_lt (place + 1) (start + count)) [
        | inl both ↦ omega (arith, key_inside place from to within, key_inside (place + 1) (omega arith) both within, e.steps place from both)
        | inr end ↦
            let here : place + 1 ≡ start + count = omega arith in
            omega (arith, key_inside place from to within, e.below place from to, key_past (place + 1) (omega arith) (omega arith), rw (← here) at between.behind)
      ]

-- where the items of a row went, and the others did not
module _ (next : List ℕ) (items : List ℕ) (chain : IsChain next items) (old new : List Place) (start count group gap bound : ℕ) (e : IsEvened old new (record { items = items; start = start; group = group; gap = gap }) count bound) where
  pub group_inside : (item : ℕ) → item < length items → start ≤ place_of item items → place_of item items < start + count → get_or (groups_of new) item 0 ≡ group
  group_inside item known from to = rw (item_at chain item known) at (e.inside (place_of item items) from to)

  pub group_before : (item : ℕ) → item < length items → place_of item items < start → get_or (groups_of new) item 0 ≡ get_or (groups_of old) item 0
  group_before item known l = rw (item_at chain item known) at (e.groups_before (place_of item items) l)

  pub group_behind : (item : ℕ) → item < length items → start + count ≤ place_of item items → get_or (groups_of new) item 0 ≡ get_or (groups_of old) item 0
  group_behind item known l = rw (item_at chain item known) at (e.groups_behind (place_of item items) l (chain.listing item known))

  pub moved-small : bound < group_width → 0 < gap → ((item : ℕ) → item < length items → get_or (locals_of old) item 0 < group_width) → (item : ℕ) → item < length items → get_or (locals_of new) item 0 < group_width
  moved-small fits some small item known =
      let place = place_of item items in
      elim (cases_lt place start) [
        | inl l ↦ rw (rw (item_at chain item known) at (e.locals_before place l)) (small item known)
        | inr from ↦ elim (cases_lt place (start + count)) [
          | inl to ↦ omega (arith, rw (item_at chain item known) at (e.below place from to))
          | inr l ↦ rw (rw (item_at chain item known) at (e.locals_behind place l (chain.listing item known))) (small item known)
        ]
      ]

module _ {order firsts : List ℕ} {places : List Place} {items : List ℕ} (grouped : IsGrouped order firsts places items) where
  -- the group of the item at a position
  abbrev group_at : ℕ → ℕ
  group_at place = get_or (groups_of places) (get_or items place 0) 0

  pub group_known : (place : ℕ) → place < length items → group_at place < length order
  group_known place within = grouped.known (get_or items place 0) (grouped.chain.numbered place within)

  pub key_is : (place : ℕ) → place < length items → get_or (labels_along (keys_of order places) items) place 0 ≡ place_of (group_at place) order * group_width + get_or (locals_of places) (get_or items place 0) 0
  key_is place within = label_is order places items place grouped.len grouped.chain.numbered within

  -- where the group changes along the items, it is a later one
  pub ranks-rise : (place : ℕ) → place + 1 < length items → group_at place ≢ group_at (place + 1) → place_of (group_at place) order < place_of (group_at (place + 1)) order
  ranks-rise place within differ =
      let rises = grouped.rising.rises place (omega (arith, length-labels_along (keys_of order places) items)) in
      let small = grouped.small (get_or items (place + 1) 0) (grouped.chain.numbered (place + 1) within) in
      elim (cases_eq (place_of (group_at place) order) (place_of (group_at (place + 1)) order)) [
        | inl same ↦ absurd (differ (one-group order _ _ grouped.groups_listing (group_known place (omega arith)) (group_known (place + 1) within) same))
        | inr other ↦ omega (arith, rises, small, other, key_is place (omega arith), key_is (place + 1) within)
      ]

  pub first_at : (group : ℕ) → group < length order → group_at (place_of (get_or firsts group 0) items) ≡ group
  first_at group known = rw (item_at grouped.chain (get_or firsts group 0) (grouped.first_known group known)) (grouped.first_in group known)

  -- no item of a group stands before its first one
  pub first-begins : (group place : ℕ) → group < length order → place + 1 ≡ place_of (get_or firsts group 0) items → group_at place ≢ group
  first-begins group place known e same =
      let start = place_of (get_or firsts group 0) items in
      let inside = grouped.chain.listing (get_or firsts group 0) (grouped.first_known group known) in
      let within : place < length items = omega (arith, inside) in
      let first = rw (same, grouped.chain.placed place within) at (grouped.first_first (get_or items place 0) (grouped.chain.numbered place within)) in
      omega (arith, first)

  -- a group's row stands between the others
  pub between-same : (group count bound : ℕ) → group < length order → IsGroupRow places items (get_or firsts group 0) count → bound < group_width → IsBetween order places items (place_of (get_or firsts group 0) items) count group bound
  between-same group count bound known row fits =
      let start = place_of (get_or firsts group 0) items in
      let last = start + count - 1 in
      let back : last + 1 ≡ start + count = omega (arith, row.row.some) in
      let in_group : group_at last ≡ group = row.same last (omega (arith, row.row.some)) (omega (arith, row.row.some)) ∙ grouped.first_in group known in
      record {
        before = λ place e.
            let begins = first-begins group place known e in
            let there : group_at (place + 1) ≡ group = rw e (first_at group known) in
            let within : place + 1 < length items = omega (arith, e, row.row.some, row.row.within) in
            let rise = rw there at (ranks-rise place within (λ same. begins (same ∙ there))) in
            let small = grouped.small (get_or items place 0) (grouped.chain.numbered place (omega arith)) in
            omega (arith, rise, small, key_is place (omega arith));
        behind =
            elim (cases_lt (start + count) (length items)) [
              | inl inner ↦
                  let ends = row.ends inner in
                  let rise = rw (in_group, back) at (ranks-rise last (omega (arith, back, inner)) (λ same. ends (sym (rw back at same) ∙ (in_group ∙ sym (grouped.first_in group known))))) in
                  omega (arith, rise, fits, key_is (start + count) inner)
              | inr outer ↦
                  let past : start + count ≡ length items = omega (arith, row.row.within) in
                  let end = rw (← past) at (label_past (keys_of order places) items) in
                  omega (arith, end, fits, grouped.groups_listing group known, grouped.few_groups)
            ];
      }

-- one item in one group
pub nexts-one : nexts_of ((record { local = 0; group = 0; next = 0 }) ∷ []) ≡ 0 ∷ []
unfolding nexts_of
nexts-one = refl

pub grouped-one : IsGrouped (0 ∷ []) (0 ∷ []) ((record { local = 0; group = 0; next = 0 }) ∷ []) (0 ∷ [])
unfolding groups_of locals_of keys_of
grouped-one =
    let zeroth : (item : ℕ) → item < 1 → item ≡ 0 = λ item l. omega arith in
    let first : place_of 0 (0 ∷ []) ≡ 0 = omega (arith, place_of-le 0 (0 ∷ []) 0 refl) in
    record {
      chain = rw nexts-one chain-one;
      len = refl;
      groups_numbered = chain-one.numbered;
      groups_listing = chain-one.listing;
      few_groups = omega arith;
      rising = rw first rising-one;
      known = λ item l. rw (zeroth item l) (omega arith);
      small = λ item l. rw (zeroth item l) (omega arith);
      firsts_len = refl;
      first_known = λ item l. rw (zeroth item l) (omega arith);
      first_in = λ item l. rw (zeroth item l) refl;
      first_first = λ item l. rw (zeroth item l) (omega arith);
    }
