-- Items in groups, and the keys by which they are compared.
use Rattle.std.specs.Prelude.{◌≡◌, ◌≢◌, ℕ, ◌+◌, ◌*◌, ◌<◌, ◌≤◌, List, map, length, slice_index}
use Rattle.order_list.specs.Order.{most_items, place_of, IsNumbered, IsListing}
use Rattle.order_list.specs.Ring.{order_of, IsChain}
use Rattle.order_list.specs.Labels.{labels_along, IsRising}
use Rattle.order_list.specs.declared.place.Place.{Place}

-- how many places a group has
abbrev pub group_width : ℕ
group_width = 4294967296

-- the groups of all items, by their numbers
unfoldable pub groups_of : List Place → List ℕ
groups_of places = map (λ place. place.group) places

-- their places in these groups
unfoldable pub locals_of : List Place → List ℕ
locals_of places = map (λ place. place.local) places

-- the items that follow them
unfoldable pub nexts_of : List Place → List ℕ
nexts_of places = map (λ place. place.next) places

-- An item's key: the position of its group among all groups in their order, and its place in the group.
-- So a key stays when groups are given new labels.
unfoldable pub keys_of : List ℕ → List Place → List ℕ
keys_of order places = map (λ place. place_of place.group order * group_width + place.local) places

-- all items, first to last
abbrev pub items_along : List Place → List ℕ
items_along places = order_of (nexts_of places)

-- the key behind that of an item
abbrev pub key_behind : List ℕ → List Place → ℕ → ℕ
key_behind order places item =
    slice_index (labels_along (keys_of order places) (items_along places)) (place_of item (items_along places) + 1)

-- Items in groups: their keys rise along the order. Each group has a first item, and no item of it stands before that.
pub record IsGrouped (order firsts : List ℕ) (places : List Place) (items : List ℕ) : Type 0 where
  pub chain : IsChain (nexts_of places) items
  pub len : length places ≡ length items
  pub groups_numbered : IsNumbered order
  pub groups_listing : IsListing order
  pub few_groups : length order ≤ most_items
  pub rising : IsRising (keys_of order places) items
  pub known : (item : ℕ) → item < length items → slice_index (groups_of places) item < length order
  pub small : (item : ℕ) → item < length items → slice_index (locals_of places) item < group_width
  pub firsts_len : length firsts ≡ length order
  pub first_known : (group : ℕ) → group < length order → slice_index firsts group < length items
  pub first_in : (group : ℕ) → group < length order → slice_index (groups_of places) (slice_index firsts group) ≡ group
  pub first_first : (item : ℕ) → item < length items →
      place_of (slice_index firsts (slice_index (groups_of places) item)) items ≤ place_of item items

-- so many items in a row, from `first` on
pub record IsRow (items : List ℕ) (first count : ℕ) : Type 0 where
  pub known : first < length items
  pub some : 0 < count
  pub within : place_of first items + count ≤ length items

-- all items of a group from `first` on
pub record IsGroupRow (places : List Place) (items : List ℕ) (first count : ℕ) : Type 0 where
  pub row : IsRow items first count
  pub same : (place : ℕ) → place_of first items ≤ place → place < place_of first items + count →
      slice_index (groups_of places) (slice_index items place) ≡ slice_index (groups_of places) first
  pub ends : place_of first items + count < length items →
      slice_index (groups_of places) (slice_index items (place_of first items + count)) ≢ slice_index (groups_of places) first

-- Where a row of items goes: those from `start` on, to `group`, each `gap` at least behind the one before it.
pub record RowMove : Type 0 where
  pub items : List ℕ
  pub start : ℕ
  pub group : ℕ
  pub gap : ℕ

-- So many items of the row have gone there, and stand below `bound`.
pub record IsEvened (old new : List Place) (move : RowMove) (count bound : ℕ) : Type 0 where
  pub len : length new ≡ length old
  pub nexts : nexts_of new ≡ nexts_of old
  pub inside : (place : ℕ) → move.start ≤ place → place < move.start + count → slice_index (groups_of new) (slice_index move.items place) ≡ move.group
  pub steps : (place : ℕ) → move.start ≤ place → place + 1 < move.start + count →
      slice_index (locals_of new) (slice_index move.items place) + move.gap ≤ slice_index (locals_of new) (slice_index move.items (place + 1))
  pub below : (place : ℕ) → move.start ≤ place → place < move.start + count → slice_index (locals_of new) (slice_index move.items place) + move.gap ≤ bound
  pub groups_before : (place : ℕ) → place < move.start →
      slice_index (groups_of new) (slice_index move.items place) ≡ slice_index (groups_of old) (slice_index move.items place)
  pub locals_before : (place : ℕ) → place < move.start →
      slice_index (locals_of new) (slice_index move.items place) ≡ slice_index (locals_of old) (slice_index move.items place)
  pub groups_behind : (place : ℕ) → move.start + count ≤ place → place < length move.items →
      slice_index (groups_of new) (slice_index move.items place) ≡ slice_index (groups_of old) (slice_index move.items place)
  pub locals_behind : (place : ℕ) → move.start + count ≤ place → place < length move.items →
      slice_index (locals_of new) (slice_index move.items place) ≡ slice_index (locals_of old) (slice_index move.items place)

-- so many places behind an item are still in its group, and before the next item
pub record HasRoom (order : List ℕ) (places : List Place) (item gap : ℕ) : Type 0 where
  pub fits : slice_index (locals_of places) item + gap < group_width
  pub behind : slice_index (keys_of order places) item + gap ≤ key_behind order places item
