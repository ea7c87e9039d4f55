use Rattle.std.proofs.Common.{length, sym, ap, ◌∙◌}
use Rattle.race_gate.proofs.Opening.{keeps-at_first}
use Rattle.race_gate.proofs.reducers.ReducerTracks.new.Goals as goal

pub returns-clause-keeps : goal.returns-clause-keeps
returns-clause-keeps g c = keeps-at_first _ c.in_ok-new.ensures.opening (c.in_ok-new-2.ensures.reducers ∙ ap length (sym c.in_ok-new-3.ensures.monoids)) c.in_ok-new-2.ensures.empty c.in_ok-new-3.ensures.opens

pub returns-clause-monoids : goal.returns-clause-monoids
returns-clause-monoids g c = c.in_ok-new-3.ensures.monoids
