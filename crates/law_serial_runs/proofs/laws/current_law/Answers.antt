use Rattle.law_serial_runs.proofs.Stays.{stack_law}
use Rattle.law_serial_runs.proofs.Steps.{current_law, last_event_law, direct_law}
use Rattle.law_serial_runs.proofs.laws.current_law.Goals as goal

pub returns : goal.returns
returns c = record { runs = current_law; last = last_event_law; direct = direct_law; stacks = stack_law }
