use Rattle.std.proofs.Common.{◌≡◌, ◌<◌, length, get_or, arith}
use Rattle.std.proofs.lemmas.Bool.{ltb-true, lt-ltb}
use Rattle.std.proofs.lemmas.List.{get_or_read}
use Rattle.order_list.specs.Items.{items_of}
use Rattle.order_list.proofs.Rises.{label-lt}
use Rattle.order_list.proofs.groups.Groups.is_before.Goals as goal

pub returns : goal.returns
returns g c =
    let ring = c.self.inside.ring.tied.chain in
    let rising = c.self.invariant.0 in
    let a_known : c.args.a < length (items_of c.self.inside.ring) = rw (← c.self.view_is) at c.requires.a_known in
    let b_known : c.args.b < length (items_of c.self.inside.ring) = rw (← c.self.view_is) at c.requires.b_known in
    let label_a : c.index.result.now ≡ get_or c.self.inside.labels.items c.args.a 0 = get_or_read _ c.args.a _ (omega (arith, rising.labels_len)) c.index.ensures 0 in
    let label_b : c.index-2.result.now ≡ get_or c.self.inside.labels.items c.args.b 0 = get_or_read _ c.args.b _ (omega (arith, rising.labels_len)) c.index-2.ensures 0 in
    let as_labels = label-lt _ _ ring.listing rising c.args.a c.args.b a_known b_known in
    rw (← c.self.view_is) (
      λ test. as_labels.0 (omega (arith, label_a, label_b, ltb-true _ _ test)),
      λ earlier. lt-ltb _ _ (omega (arith, label_a, label_b, as_labels.1 earlier)),
    )
