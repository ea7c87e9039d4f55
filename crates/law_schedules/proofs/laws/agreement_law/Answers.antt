use Rattle.law_schedules.proofs.Agreements.{agreement_law}
use Rattle.law_schedules.proofs.laws.agreement_law.Goals as goal

pub returns : goal.returns
returns c = agreement_law
