use Rattle.std.proofs.Common.{rules}
use Rattle.locked_replay.proofs.locked.LockedGate.ask.Goals as goal

pub returns-clause-receipt : goal.returns-clause-receipt
returns-clause-receipt g c = search rules
