use Rattle.law_values.proofs.Law.{log_law}
use Rattle.law_values.proofs.laws.log_law.Goals as goal

pub returns : goal.returns
returns c = log_law
