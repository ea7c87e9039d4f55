use Rattle.law_addresses.proofs.Blocks.{joins-ends}
use Rattle.law_addresses.proofs.Dags.{paths-reach}
use Rattle.law_addresses.proofs.laws.dag_law.Goals as goal

pub returns : goal.returns
returns c = record { joins = joins-ends; paths = paths-reach }
