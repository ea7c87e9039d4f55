use Rattle.std.proofs.Common.{rules}
use Rattle.locked_replay.proofs.whole.fault_of.Goals as goal

pub returns-in-Memory-clause-told : goal.returns-in-Memory-clause-told
returns-in-Memory-clause-told c = search rules
