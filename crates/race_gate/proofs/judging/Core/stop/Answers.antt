use Rattle.race_gate.proofs.Cores.{stopped-fits}
use Rattle.race_gate.proofs.judging.Core.stop.Goals as goal

pub invariant_of-self : goal.invariant_of-self
invariant_of-self g c = (_, stopped-fits _ _ c.self.invariant.1)
