use Rattle.law_strands.proofs.Branches.{branch_law, finished_branch_law}
use Rattle.law_strands.proofs.laws.branch_law.Goals as goal

pub returns : goal.returns
returns c = record { every_extension = branch_law; finished = finished_branch_law }
