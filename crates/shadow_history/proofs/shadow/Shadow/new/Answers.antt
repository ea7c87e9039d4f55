use Rattle.std.proofs.Common.{arith}
use Rattle.shadow_history.proofs.shadow.Shadow.new.Goals as goal

pub returns-clause-locations : goal.returns-clause-locations
returns-clause-locations g c = omega (arith, c.in_ok-vec.ensures.len, c.in_ok-vec.field-0.ok.0)
