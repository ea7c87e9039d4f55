use Rattle.law_elision.proofs.Expansions.{dialogue_evaluates}
use Rattle.law_elision.proofs.laws.expansion_law.Goals as goal

pub returns : goal.returns
returns c = dialogue_evaluates
