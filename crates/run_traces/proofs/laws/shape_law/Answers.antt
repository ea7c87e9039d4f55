use Rattle.run_traces.proofs.Printed.{shape_law}
use Rattle.run_traces.proofs.laws.shape_law.Goals as goal

pub returns : goal.returns
returns c = shape_law
