-- Items that are tied to their neighbours.
use Rattle.std.specs.Prelude.{◌≡◌, ℕ, zero, suc, ◌+◌, ◌<◌, List, [], ◌∷◌, length, slice_index}
use Rattle.order_list.specs.Order.{IsNumbered, IsListing, place_of}

-- so many items, from one on along `next`
abbrev pub walk : List ℕ → ℕ → ℕ → List ℕ
walk next zero item = []
walk next (suc count) item = item ∷ walk next count (slice_index next item)

-- all items, from item 0 on
unfoldable pub order_of : List ℕ → List ℕ
order_of next = walk next (length next) 0

-- Each item stands in front of the one that follows it, from item 0 on, and the last item stands before item 0.
-- Past the end, `slice_index items` is 0, the item that follows the last one.
pub record IsChain (next items : List ℕ) : Type 0 where
  pub begins : slice_index items 0 ≡ 0
  pub not_empty : 0 < length items
  pub next_len : length next ≡ length items
  pub numbered : IsNumbered items
  pub listing : IsListing items
  pub placed : (place : ℕ) → place < length items → place_of (slice_index items place) items ≡ place
  pub forward : (place : ℕ) → place < length items → slice_index next (slice_index items place) ≡ slice_index items (place + 1)

-- the same in both directions
pub record IsRing (next previous items : List ℕ) : Type 0 where
  pub chain : IsChain next items
  pub previous_len : length previous ≡ length items
  pub backward : (place : ℕ) → place < length items → slice_index previous (slice_index items (place + 1)) ≡ slice_index items place
