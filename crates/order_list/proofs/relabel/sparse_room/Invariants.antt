use Rattle.std.proofs.Common.{◌≡◌}
use Rattle.order_list.specs.Items.{items_of}
use Rattle.order_list.specs.Labels.{IsStretch}
use Rattle.order_list.proofs.relabel.sparse_room.Given as goal

abbrev pub invariant-loop-bits : goal.invariant-loop-bits
invariant-loop-bits g l = record {
  stretch : IsStretch (items_of l.ring) l.stretch;
  item : l.stretch.item ≡ l.item;
}
