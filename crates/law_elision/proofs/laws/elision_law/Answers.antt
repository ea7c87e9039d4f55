use Rattle.law_elision.proofs.Elided.{elision_law}
use Rattle.law_elision.proofs.laws.elision_law.Goals as goal

pub returns : goal.returns
returns c = elision_law
