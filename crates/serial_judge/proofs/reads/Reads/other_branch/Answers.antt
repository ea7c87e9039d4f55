-- Of no reads none is of another branch.
use Rattle.std.proofs.Common.{subst}
use Rattle.serial_judge.specs.Reads.{AreKeptReads}
use Rattle.serial_judge.proofs.reads.Reads.other_branch.Goals as goal

pub returns-in-None : goal.returns-in-None
returns-in-None c branch all reducer k read d e = absurd (subst (AreKeptReads branch all reducer) c.in-None.is k read d e)
