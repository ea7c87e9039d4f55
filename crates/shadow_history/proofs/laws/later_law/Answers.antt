use Rattle.shadow_history.proofs.Later.{later_law}
use Rattle.shadow_history.proofs.laws.later_law.Goals as goal

pub returns : goal.returns
returns c = later_law
