-- What a contract sees of an order list.
use Rattle.std.specs.Prelude.{ℕ, ◌+◌, ◌<◌, List, ◌==◌, length, insert, slice_index}
use Rattle.std.specs.List.{position_or_len}

-- The items, first to last, and for how many more there is room.
pub record Order : Type 0 where
  pub items : List ℕ
  pub reserved : ℕ

-- the most items that an order list holds
abbrev pub most_items : ℕ
most_items = 3000001

-- the position of an item, or the length of the list where it is absent
unfoldable pub place_of : ℕ → List ℕ → ℕ
place_of item items = position_or_len (λ other. other == item) items

-- the list once an item was put directly behind another
abbrev pub insert_behind : ℕ → ℕ → List ℕ → List ℕ
insert_behind after item items = insert items (place_of after items + 1) item

-- only numbers below the length stand in the list
abbrev pub IsNumbered : List ℕ → Type 0
IsNumbered items = (place : ℕ) → place < length items → slice_index items place < length items

-- every number below the length stands in the list, so each stands there once
abbrev pub IsListing : List ℕ → Type 0
IsListing items = (item : ℕ) → item < length items → place_of item items < length items
