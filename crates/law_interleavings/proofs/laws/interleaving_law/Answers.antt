use Rattle.law_interleavings.proofs.Interleavings.{interleaving_law}
use Rattle.law_interleavings.proofs.laws.interleaving_law.Goals as goal

pub returns : goal.returns
returns c = interleaving_law
