use Rattle.std.proofs.Common.{◌≡◌, ◌-◌, length}
use Rattle.order_list.specs.Items.{items_of}
use Rattle.order_list.specs.Labels.{IsStretch}
use Rattle.order_list.proofs.relabel.widen_back.Given as goal

abbrev pub invariant-back : goal.invariant-back
invariant-back g l = record {
  stretch : IsStretch (items_of l.ring) l.wider;
  item : l.wider.item ≡ l.fn.stretch.item;
}

abbrev pub decreases-back : goal.decreases-back
decreases-back g l = length (items_of l.ring) - l.wider.count
