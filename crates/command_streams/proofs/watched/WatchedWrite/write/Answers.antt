use Rattle.std.proofs.Common.{rules}
use Rattle.command_streams.proofs.watched.WatchedWrite.write.Goals as goal

pub returns-clause-failed : goal.returns-clause-failed
returns-clause-failed g c = search rules
