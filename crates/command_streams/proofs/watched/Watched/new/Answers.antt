use Rattle.std.proofs.Common.{refl}
use Rattle.command_streams.proofs.watched.Watched.new.Goals as goal

pub returns-clause-failed : goal.returns-clause-failed
returns-clause-failed g c = refl
