use Rattle.law_schedules.proofs.Schedules.{clean_law}
use Rattle.race_report.proofs.Schedules.{schedules_law}
use Rattle.race_report.proofs.laws.schedules_law.Goals as goal

pub returns : goal.returns
returns c = schedules_law clean_law
