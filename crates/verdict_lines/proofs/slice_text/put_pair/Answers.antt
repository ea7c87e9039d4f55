use Rattle.std.proofs.Common.{◌+◌, ◌/◌, ◌%◌}
use Rattle.verdict_lines.proofs.Digits.{pair_at, two_put}
use Rattle.verdict_lines.proofs.slice_text.put_pair.Goals as goal

pub returns-clause-put : goal.returns-clause-put
returns-clause-put c =
    let digits = pair_at c.args.pair c.requires.small in
    rw (digits.0, digits.1) (two_put c.args.out.now c.args.at (48 + c.args.pair / 10) (48 + c.args.pair % 10) c.requires.room)
