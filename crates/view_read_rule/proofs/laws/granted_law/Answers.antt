use Rattle.view_read_rule.proofs.Granted.{later}
use Rattle.view_read_rule.proofs.laws.granted_law.Goals as goal

pub returns-clause-later : goal.returns-clause-later
returns-clause-later c = later
