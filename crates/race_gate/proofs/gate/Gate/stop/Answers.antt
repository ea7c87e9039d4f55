use Rattle.std.proofs.Common.{refl}
use Rattle.race_gate.proofs.Cores.{now-fits, now-history, gate-shown, gate-fits}
use Rattle.race_gate.proofs.gate.Gate.stop.Goals as goal

pub invariant_of-self : goal.invariant_of-self
invariant_of-self g c =
    let held = g.H.History.entries c.self.inside.history in
    let fits = now-fits _ held _ c.self.view_is c.self.invariant in
    gate-fits _ held _ (c.stop.ensures.fits _ fits) (now-history _ held _ c.self.view_is c.self.invariant _ refl)

pub returns : goal.returns
returns g c =
    let held = g.H.History.entries c.self.inside.history in
    let fits = now-fits _ held _ c.self.view_is c.self.invariant in
    gate-shown _ held _ (c.stop.ensures.fits _ fits) (now-history _ held _ c.self.view_is c.self.invariant _ refl)
