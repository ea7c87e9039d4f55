use Rattle.std.proofs.Common.{◌≡◌, ◌-◌, length}
use Rattle.order_list.specs.Items.{items_of}
use Rattle.order_list.specs.Labels.{IsStretch}
use Rattle.order_list.proofs.relabel.widen_ahead.Given as goal

abbrev pub invariant-ahead : goal.invariant-ahead
invariant-ahead g l = record {
  stretch : IsStretch (items_of l.ring) l.wider;
  item : l.wider.item ≡ l.fn.stretch.item;
  first : l.wider.first ≡ l.fn.stretch.first;
}

abbrev pub decreases-ahead : goal.decreases-ahead
decreases-ahead g l = length (items_of l.ring) - l.wider.count
