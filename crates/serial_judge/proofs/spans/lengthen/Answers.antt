-- The last span has more numbers, the ones before it stay.
use Rattle.std.proofs.Common.{◌-◌, arith}
use Rattle.serial_judge.proofs.Ascending.{lengthened}
use Rattle.serial_judge.proofs.spans.lengthen.Goals as goal

pub returns-clause-longer : goal.returns-clause-longer
returns-clause-longer g c =
    lengthened c.args.spans.now.items c.args.fixed (c.len-len.result - 1) c.index_mut.result.now c.index-last.result.now c.args.span
    c.requires.ascending c.requires.order (omega arith) (omega arith) c.index_mut.ensures.value c.index-last.ensures c.if-last-span.false
