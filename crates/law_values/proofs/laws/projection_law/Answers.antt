use Rattle.law_values.proofs.Accesses.{projection_law}
use Rattle.law_values.proofs.laws.projection_law.Goals as goal

pub returns : goal.returns
returns c = projection_law
