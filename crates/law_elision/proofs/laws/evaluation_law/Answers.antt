use Rattle.law_elision.proofs.Evaluations.{one_evaluation_law, one_elision_law, evaluated_law}
use Rattle.law_elision.proofs.laws.evaluation_law.Goals as goal

pub returns : goal.returns
returns c = record { one = one_evaluation_law; program = one_elision_law; elides = evaluated_law }
