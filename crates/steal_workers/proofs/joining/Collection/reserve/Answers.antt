use Rattle.steal_workers.proofs.Asking.{ok_step}
use Rattle.steal_workers.proofs.joining.Collection.reserve.Goals as goal

pub returns-clause-room : goal.returns-clause-room
returns-clause-room g c = ok_step c.reserve-3.result _ _ c.reserve-3.ensures.ok (λ passes. (c.in_ok-reserve.ensures.ok, c.in_ok-reserve-2.ensures.ok, passes))
