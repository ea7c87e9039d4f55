use Rattle.std.proofs.Common.{rules}
use Rattle.locked_replay.proofs.locked.LockedGate.new.Goals as goal

pub invariant_of-seat : goal.invariant_of-seat
invariant_of-seat g c = search rules

pub returns : goal.returns
returns g c = search rules
