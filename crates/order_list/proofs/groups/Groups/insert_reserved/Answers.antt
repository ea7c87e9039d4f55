use Rattle.std.proofs.Common.{◌≡◌, ◌<◌, [], ◌∷◌, ◌++◌, length, arith}
use Rattle.std.proofs.lemmas.List.{with_items_is}
use Rattle.order_list.specs.Items.{items_of}
use Rattle.order_list.proofs.Rises.{insert-rising}
use Rattle.order_list.proofs.groups.Groups.insert_reserved.Goals as goal

pub invariant_of-self : goal.invariant_of-self
invariant_of-self g c =
    let ring = c.self.inside.ring.tied.chain in
    let labels = c.label_behind-label.new.labels in
    let found = c.label_behind-label.ensures in
    let known : c.args.after < length (items_of c.self.inside.ring) = rw (← c.self.view_is) at c.requires.known in
    let labels_are : c.push_reserved.new.self.items ≡ labels ++ c.label_behind-label.result ∷ [] =
    rw (with_items_is c.self.inside.labels labels (omega (arith, c.self.inside.labels.ok, c.self.invariant.0.labels_len, found.rising.labels_len))) at c.push_reserved.ensures.items in (
      rw (labels_are, c.insert_reserved.ensures.items, c.insert_reserved.ensures.item)
          (insert-rising labels _ c.args.after c.label_behind-label.result ring.numbered ring.listing found.rising known found.above found.below),
      omega (arith, c.push_reserved.ensures.len, c.push_reserved.ensures.capacity, c.insert_reserved.ensures.reserved, c.self.invariant.1),
    )

pub returns-clause-items : goal.returns-clause-items
returns-clause-items g c = rw (← c.self.view_is) c.insert_reserved.ensures.items
