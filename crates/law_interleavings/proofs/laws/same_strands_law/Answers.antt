use Rattle.law_interleavings.proofs.Interleavings.{same_strands_law}
use Rattle.law_interleavings.proofs.laws.same_strands_law.Goals as goal

pub returns : goal.returns
returns c = same_strands_law
