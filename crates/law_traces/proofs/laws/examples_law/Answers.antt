use Rattle.law_traces.proofs.Examples.{examples_law}
use Rattle.law_traces.proofs.laws.examples_law.Goals as goal

pub returns : goal.returns
returns c = examples_law
