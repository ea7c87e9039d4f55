use Rattle.std.proofs.Common.{◌≤◌, length, subst}
use Rattle.model_histories.specs.States.{GateState}
use Rattle.race_gate.proofs.gate.Gate.kept_history.Goals as goal

pub returns-clause-entries : goal.returns-clause-entries
returns-clause-entries g c = cc

pub returns-clause-within : goal.returns-clause-within
returns-clause-within g c = subst (λ (state : GateState). length state.history ≤ state.limit) c.self.view_is c.self.invariant.kept.within
