use Rattle.law_serial_runs.proofs.Passed.{passed_law, passed_more_law}
use Rattle.law_serial_runs.proofs.Ends.{passing_law}
use Rattle.law_serial_runs.proofs.Children.{open_law, fresh_law, child_law}
use Rattle.law_serial_runs.proofs.laws.span_law.Goals as goal

pub returns : goal.returns
returns c = record { passed = passed_law; more = passed_more_law; passing = passing_law; opened = open_law; fresh = fresh_law; child = child_law }
