use Rattle.std.proofs.Common.{◌≡◌, ◌+◌, ◌-◌, ◌*◌, ◌≤◌, slice_index}
use Rattle.order_list.specs.Order.{place_of}
use Rattle.order_list.specs.Items.{items_of}
use Rattle.order_list.specs.Labels.{labels_along}
use Rattle.order_list.proofs.Spreads.{IsSpread}
use Rattle.order_list.proofs.relabel.spread.Given as goal

abbrev pub invariant-loop-placed : goal.invariant-loop-placed
invariant-loop-placed g l = record {
  spread : IsSpread (labels_along l.initial.labels (items_of l.ring)) (labels_along l.labels (items_of l.ring)) (place_of l.stretch.first (items_of l.ring)) l.placed l.fn.room.low l.label;
  item : l.item ≡ slice_index (items_of l.ring) (place_of l.stretch.first (items_of l.ring) + l.placed);
  fits : l.label + (l.stretch.count - l.placed) * l.distance + l.free ≤ l.fn.room.high;
}
