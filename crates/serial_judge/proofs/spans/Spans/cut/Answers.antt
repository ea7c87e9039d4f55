-- The first spans lie one behind another as all do.
use Rattle.serial_judge.proofs.Ascending.{ascending-take}
use Rattle.serial_judge.proofs.spans.Spans.cut.Goals as goal

pub invariant_of-self : goal.invariant_of-self
invariant_of-self g c =
    (c.self.invariant.0, rw c.truncate.ensures.items (ascending-take 1 c.self.inside.spans.items c.self.invariant.0 c.args.count c.self.invariant.1))
