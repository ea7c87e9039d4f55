use Rattle.std.proofs.Common.{rules}
use Rattle.serial_elision.proofs.elision.Elision.put.Goals as goal

pub returns-clause-state : goal.returns-clause-state
returns-clause-state g c = search rules
