use Rattle.std.proofs.Common.{refl}
use Rattle.command_jobs.proofs.performing.exit_of.Goals as goal

pub returns-in-Ok-clause-status : goal.returns-in-Ok-clause-status
returns-in-Ok-clause-status c = rw c.in-Ok.is refl
