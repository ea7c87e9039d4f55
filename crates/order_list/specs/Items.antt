-- What a contract sees of a ring.
use Rattle.std.specs.Prelude.{ℕ, List}
use Rattle.order_list.specs.declared.ring.Ring.{Ring}
use Rattle.order_list.specs.Ring.{order_of}

module _ {A : Type 0} where
  -- the items of a ring, first to last
  abbrev pub items_of : Ring A → List ℕ
  items_of ring = order_of ring.next.items
