use Rattle.law_runs.proofs.Numbering.{numbers_law}
use Rattle.law_runs.proofs.laws.numbers_law.Goals as goal

pub returns : goal.returns
returns c = numbers_law
