use Rattle.law_values.proofs.Law.{counted_law}
use Rattle.law_values.proofs.laws.counted_law.Goals as goal

pub returns : goal.returns
returns c = counted_law
