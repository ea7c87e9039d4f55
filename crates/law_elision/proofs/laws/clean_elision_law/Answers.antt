use Rattle.law_elision.proofs.Meeting.{clean_elision_law}
use Rattle.law_elision.proofs.laws.clean_elision_law.Goals as goal

pub returns : goal.returns
returns c = clean_elision_law
