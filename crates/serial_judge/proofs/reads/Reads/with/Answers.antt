-- What is kept, by how many branches there are.
use Rattle.std.proofs.Common.{◌++◌, ◌∷◌, [], sym, subst}
use Rattle.serial_judge.specs.Reads.{AreKeptReads}
use Rattle.serial_judge.proofs.Reading.{first_kept, second_kept, two_kept}
use Rattle.serial_judge.proofs.reads.Reads.with.Goals as goal

pub returns-in-None : goal.returns-in-None
returns-in-None c branch all reducer read t k =
    first_kept branch all reducer read c.args.new t (subst (AreKeptReads branch all reducer) c.in-None.is k)

pub returns-else-first-new : goal.returns-else-first-new
returns-else-first-new c branch all reducer read t k =
    second_kept branch all reducer read c.in-OneBranch.first c.args.new c.if-first-new.false t
    (subst (AreKeptReads branch all reducer) c.in-OneBranch.is k)

pub returns-in-TwoBranches : goal.returns-in-TwoBranches
returns-in-TwoBranches c branch all reducer read t k =
    subst (AreKeptReads branch (all ++ read ∷ []) reducer) (sym c.in-TwoBranches.is)
    (two_kept branch all reducer read c.in-TwoBranches.field-0 c.in-TwoBranches.field-1 (subst (AreKeptReads branch all reducer) c.in-TwoBranches.is k))
