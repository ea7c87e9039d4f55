use Rattle.law_strands.proofs.Sinks.{running_law, running_address_law}
use Rattle.law_strands.proofs.laws.running_law.Goals as goal

pub returns : goal.returns
returns c = record { paths = running_law; addresses = running_address_law }
