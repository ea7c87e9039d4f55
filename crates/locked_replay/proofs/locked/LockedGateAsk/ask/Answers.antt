use Rattle.std.proofs.Common.{rules}
use Rattle.locked_replay.proofs.locked.LockedGateAsk.ask.Goals as goal

pub returns-clause-asked : goal.returns-clause-asked
returns-clause-asked g c = search rules
