-- The judge follows a run without events.
use Rattle.serial_judge.specs.Runs.{beginning}
use Rattle.serial_judge.proofs.Beginning.{follows_beginning}
use Rattle.serial_judge.proofs.judge.SerialJudge.new.Goals as goal

pub invariant_of-result : goal.invariant_of-result
invariant_of-result g c =
    rw (c.new.ensures.items, c.new-2.ensures, c.in_ok-new.ensures, c.new-4.ensures) (beginning, follows_beginning)

pub returns : goal.returns
returns g c = rw (c.new.ensures.items, c.new-2.ensures, c.in_ok-new.ensures, c.new-4.ensures) follows_beginning
