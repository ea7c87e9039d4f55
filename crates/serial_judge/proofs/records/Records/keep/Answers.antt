-- What is kept is not more, and nothing is noted of it.
use Rattle.std.proofs.Common.{length, ap, arith}
use Rattle.serial_judge.proofs.Moving.{marked-shorter}
use Rattle.serial_judge.proofs.records.Records.keep.Goals as goal

pub invariant_of-self : goal.invariant_of-self
invariant_of-self g c = (
  omega (arith, ap length c.finish-kept.ensures.kept, marked-shorter c.args.marks c.deref.result.now, ap length c.deref.ensures.value, c.self.invariant.0),
  (λ place lt. absurd (omega (arith, ap length c.clear.ensures.items, lt))),
)
