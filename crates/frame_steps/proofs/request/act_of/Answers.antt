use Rattle.std.proofs.Common.{rules}
use Rattle.frame_steps.proofs.request.act_of.Goals as goal

pub returns-in-Bump : goal.returns-in-Bump
returns-in-Bump c = search rules
