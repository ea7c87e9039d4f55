use Rattle.std.proofs.Common.{reverse, ap}
use Rattle.race_gate.proofs.Cores.{gate-shown, gate-fits}
use Rattle.race_gate.proofs.gate.Gate.new.Goals as goal

pub returns : goal.returns
returns g c = gate-shown _ (g.H.History.entries c.empty.result) _ c.in_ok-new.ensures (ap reverse c.empty.ensures)

pub invariant_of-result : goal.invariant_of-result
invariant_of-result g c = gate-fits _ (g.H.History.entries c.empty.result) _ c.in_ok-new.ensures (ap reverse c.empty.ensures)
