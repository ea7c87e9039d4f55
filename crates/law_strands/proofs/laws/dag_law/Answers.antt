use Rattle.law_strands.proofs.AddressDags.{dag_law}
use Rattle.law_strands.proofs.laws.dag_law.Goals as goal

pub returns : goal.returns
returns c = dag_law
