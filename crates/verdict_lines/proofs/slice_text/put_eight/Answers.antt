use Rattle.std.proofs.Common.{◌≡◌, ◌+◌, arith, append_assoc}
use Rattle.itoa.proofs.Decimal.{decimal_four}
use Rattle.verdict_lines.proofs.slice_text.put_eight.Goals as goal

pub returns-clause-put : goal.returns-clause-put
returns-clause-put c =
    let e : c.put_four-end.result + 4 ≡ c.put_four-end.result + 2 + 2 = omega arith in
    rw (e, c.put_pair-2.ensures.put, c.put_pair.ensures.put, c.put_four-end.ensures.put, decimal_four c.args.number c.if-number-lt10000.false (omega arith), append_assoc, append_assoc)
