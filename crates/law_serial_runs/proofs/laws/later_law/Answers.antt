use Rattle.law_serial_runs.proofs.Earlier.{hebrew_last_law}
use Rattle.law_serial_runs.proofs.Children.{stability_law}
use Rattle.law_serial_runs.proofs.Keeping.{kept_law}
use Rattle.law_serial_runs.proofs.laws.later_law.Goals as goal

pub returns : goal.returns
returns c = record { stable = stability_law; last = hebrew_last_law; kept = kept_law }
