use Rattle.std.proofs.Common.{rules}
use Rattle.frame_steps.proofs.activation.Activation.begin.Goals as goal

pub returns-clause-registers : goal.returns-clause-registers
returns-clause-registers c = search rules
