use Rattle.std.proofs.Common.{◌+◌, arith}
use Rattle.std.proofs.lemmas.Fmt.{decimal_digit}
use Rattle.std.proofs.lemmas.List.{take_more_set}
use Rattle.itoa.proofs.Decimal.{decimal_two}
use Rattle.verdict_lines.proofs.slice_text.put_two.Goals as goal

pub returns-then-number-lt10-clause-put : goal.returns-then-number-lt10-clause-put
returns-then-number-lt10-clause-put c =
    rw (decimal_digit c.args.number c.if-number-lt10.true) (take_more_set c.args.out.now c.args.at (48 + c.args.number) (omega (arith, c.requires.room)))

pub returns-clause-put : goal.returns-clause-put
returns-clause-put c = rw (decimal_two c.args.number c.if-number-lt10.false c.requires.small) c.put_pair.ensures.put
