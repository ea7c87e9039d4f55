use Rattle.std.proofs.Common.{rules}
use Rattle.frame_steps.proofs.activation.Activation.statement_in.Goals as goal

pub returns-in-Returning : goal.returns-in-Returning
returns-in-Returning g c = search rules
