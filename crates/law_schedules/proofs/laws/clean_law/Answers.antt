use Rattle.law_schedules.proofs.Schedules.{clean_law}
use Rattle.law_schedules.proofs.laws.clean_law.Goals as goal

pub returns : goal.returns
returns c = clean_law
