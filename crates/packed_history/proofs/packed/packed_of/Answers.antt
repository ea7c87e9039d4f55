use Rattle.packed_history.proofs.Packing.{packed-is}
use Rattle.packed_history.proofs.packed.packed_of.Goals as goal

pub returns : goal.returns
returns c =
    packed-is c.in_ok-start.start c.in_ok-numbers.numbers.tag c.in_ok-numbers.numbers.first c.in_ok-numbers.numbers.second c.args.receipt
    c.in_ok-start.ensures c.in_ok-numbers.ensures.1
