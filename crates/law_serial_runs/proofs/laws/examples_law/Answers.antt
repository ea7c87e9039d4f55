use Rattle.law_serial_runs.proofs.Examples.{worked_runs}
use Rattle.law_serial_runs.proofs.laws.examples_law.Goals as goal

pub returns : goal.returns
returns c = worked_runs
