use Rattle.std.proofs.Common.{◌≡◌, ℕ, ◌+◌, ◌-◌, ◌<◌, ◌≤◌, length, slice_index}
use Rattle.order_list.specs.Order.{place_of}
use Rattle.order_list.specs.Places.{groups_of, items_along}
use Rattle.order_list.proofs.place.count_from.Given as goal

abbrev pub invariant-ahead : goal.invariant-ahead
invariant-ahead l = record {
  some : 0 < l.count;
  within : place_of l.first (items_along l.places) + l.count ≤ length (items_along l.places);
  end : l.end ≡ slice_index (items_along l.places) (place_of l.first (items_along l.places) + l.count);
  same : (place : ℕ) → place_of l.first (items_along l.places) ≤ place → place < place_of l.first (items_along l.places) + l.count → slice_index (groups_of l.places) (slice_index (items_along l.places) place) ≡ slice_index (groups_of l.places) l.first;
}

abbrev pub decreases-ahead : goal.decreases-ahead
decreases-ahead l = length (items_along l.places) - l.count
