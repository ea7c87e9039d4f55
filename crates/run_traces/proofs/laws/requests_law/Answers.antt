use Rattle.run_traces.proofs.Printed.{requests_law}
use Rattle.run_traces.proofs.laws.requests_law.Goals as goal

pub returns : goal.returns
returns c = requests_law
