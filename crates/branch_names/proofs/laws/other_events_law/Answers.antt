use Rattle.branch_names.proofs.Events.{other-events}
use Rattle.branch_names.proofs.laws.other_events_law.Goals as goal

pub returns : goal.returns
returns c = other-events
