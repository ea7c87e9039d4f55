-- What is held is the number of a record.
use Rattle.std.proofs.Common.{sym}
use Rattle.serial_judge.proofs.Recorded.{held_numbered}
use Rattle.serial_judge.proofs.judge.SerialJudge.find.Goals as goal

pub returns-in_err-made-clause-found : goal.returns-in_err-made-clause-found
returns-in_err-made-clause-found g c =
    absurd (held_numbered _ c.self.invariant.0 c.self.invariant.1 c.args.number (sym c.in_ok-span.ensures) (sym c.in_err-made.ensures))
