use Rattle.std.proofs.Common.{[]}
use Rattle.call_tests.proofs.gates.accesses.opening.Goals as goal

pub returns-clause-stands : goal.returns-clause-stands
returns-clause-stands g c = ([], [], c.in_ok-strands.ensures.opening, c.in_ok-shadow.ensures.empty [])
