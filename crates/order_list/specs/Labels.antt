-- Labels that rise along a list of items.
use Rattle.std.specs.Prelude.{◌≡◌, ℕ, ◌+◌, ◌*◌, ◌<◌, ◌≤◌, List, [], ◌∷◌, ◌++◌, map, length, min, slice_index}
use Rattle.std.specs.List.Sorted.{IsStrictlyIncreasing}
use Rattle.order_list.specs.Order.{place_of}
use Rattle.order_list.specs.declared.relabel.Stretch.{Stretch}
use Rattle.order_list.specs.declared.relabel.Room.{Room}

-- the greatest number of 64 bits, which is no label
abbrev pub top_label : ℕ
top_label = 18446744073709551615

-- above all labels, and above the keys of items in groups, which have 54 bits
abbrev pub last_label : ℕ
last_label = 79228162514264337593543950336

-- the labels of the items in their order, and behind them the last label
unfoldable pub labels_along : List ℕ → List ℕ → List ℕ
labels_along labels items = map (slice_index labels) items ++ last_label ∷ []

-- each item has a label, and these rise
pub record IsRising (labels items : List ℕ) : Type 0 where
  pub labels_len : length labels ≡ length items
  pub rises : IsStrictlyIncreasing (labels_along labels items)

-- the label behind that of `item`, or the greatest number that a label can have behind the last one
abbrev pub label_after : List ℕ → List ℕ → ℕ → ℕ
label_after labels items item = min (slice_index (labels_along labels items) (place_of item items + 1)) top_label

-- there is a label between that of `item` and the next one
abbrev pub HasGap : List ℕ → List ℕ → ℕ → Type 0
HasGap labels items item = slice_index labels item + 2 ≤ label_after labels items item

-- the items of a stretch stand in a row, and its own item is one of them
pub record IsStretch (items : List ℕ) (stretch : Stretch) : Type 0 where
  pub first_known : stretch.first < length items
  pub end_is : stretch.end ≡ slice_index items (place_of stretch.first items + stretch.count)
  pub within : place_of stretch.first items + stretch.count ≤ length items
  pub from : place_of stretch.first items ≤ place_of stretch.item items
  pub to : place_of stretch.item items < place_of stretch.first items + stretch.count

-- what stands before the stretch has a label below `low`
abbrev pub IsAllBefore : List ℕ → List ℕ → Stretch → ℕ → Type 0
IsAllBefore labels items stretch low =
    (place : ℕ) → place + 1 ≡ place_of stretch.first items → slice_index (labels_along labels items) place < low

-- the label behind the stretch is not below `high`
abbrev pub IsAllBehind : List ℕ → List ℕ → Stretch → ℕ → Type 0
IsAllBehind labels items stretch high =
    high ≤ slice_index (labels_along labels items) (place_of stretch.first items + stretch.count)

-- two labels for each item of the stretch, and the free ones, lie between the labels around it
pub record IsRoom (labels items : List ℕ) (stretch : Stretch) (room : Room) : Type 0 where
  pub before : IsAllBefore labels items stretch room.low
  pub behind : IsAllBehind labels items stretch room.high
  pub fits : room.low + stretch.count * 2 + room.free ≤ room.high
