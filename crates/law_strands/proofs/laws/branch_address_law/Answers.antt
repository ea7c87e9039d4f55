use Rattle.law_strands.proofs.Branches.{branch_address_law}
use Rattle.law_strands.proofs.laws.branch_address_law.Goals as goal

pub returns : goal.returns
returns c = branch_address_law
