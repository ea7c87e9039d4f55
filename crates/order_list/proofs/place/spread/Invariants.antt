use Rattle.std.proofs.Common.{◌≡◌, ◌+◌, ◌-◌, ◌*◌, ◌≤◌, slice_index}
use Rattle.order_list.specs.Order.{place_of}
use Rattle.order_list.specs.Places.{items_along, IsEvened}
use Rattle.order_list.proofs.place.spread.Given as goal

abbrev pub invariant-loop-placed : goal.invariant-loop-placed
invariant-loop-placed l = record {
  evened : IsEvened l.initial.places l.places (record { items = items_along l.initial.places; start = place_of l.first (items_along l.initial.places); group = l.group; gap = l.distance }) l.placed l.local;
  item : l.item ≡ slice_index (items_along l.initial.places) (place_of l.first (items_along l.initial.places) + l.placed);
  fits : l.local + (l.count - l.placed) * l.distance ≤ 4294967295;
}
