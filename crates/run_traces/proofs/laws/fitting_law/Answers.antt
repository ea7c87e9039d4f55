use Rattle.run_traces.proofs.Fitted.{fitting_law}
use Rattle.run_traces.proofs.laws.fitting_law.Goals as goal

pub returns : goal.returns
returns c = fitting_law
