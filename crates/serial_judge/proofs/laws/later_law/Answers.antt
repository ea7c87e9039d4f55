use Rattle.serial_judge.proofs.Kept.{later_law, recorded_law}
use Rattle.serial_judge.proofs.laws.later_law.Goals as goal

pub returns : goal.returns
returns c = record { later = later_law; recorded = recorded_law }
