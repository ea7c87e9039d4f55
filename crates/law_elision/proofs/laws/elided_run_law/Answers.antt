use Rattle.law_elision.proofs.Meeting.{elided_run_law}
use Rattle.law_elision.proofs.laws.elided_run_law.Goals as goal

pub returns : goal.returns
returns c = elided_run_law
