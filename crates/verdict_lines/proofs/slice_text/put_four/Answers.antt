use Rattle.std.proofs.Common.{arith, append_assoc}
use Rattle.itoa.proofs.Decimal.{decimal_pair}
use Rattle.verdict_lines.proofs.slice_text.put_four.Goals as goal

pub returns-clause-put : goal.returns-clause-put
returns-clause-put c =
    rw (c.put_pair.ensures.put, c.put_two-end.ensures.put, decimal_pair c.args.number c.if-number-lt100.false (omega arith), append_assoc)
