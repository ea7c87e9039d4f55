use Rattle.std.proofs.Common.{rules}
use Rattle.frame_steps.proofs.frame.Frame.spawns.Goals as goal

pub returns-in-Some-Spawn-clause-target : goal.returns-in-Some-Spawn-clause-target
returns-in-Some-Spawn-clause-target g c = search rules
