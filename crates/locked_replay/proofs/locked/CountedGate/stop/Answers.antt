use Rattle.std.proofs.Common.{rules}
use Rattle.locked_replay.proofs.locked.CountedGate.stop.Goals as goal

pub returns : goal.returns
returns g c = search rules
