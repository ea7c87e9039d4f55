use Rattle.law_strands.proofs.AddressDags.{numbers_law}
use Rattle.law_strands.proofs.laws.numbers_law.Goals as goal

pub returns : goal.returns
returns c = numbers_law
