use Rattle.std.proofs.Common.{rules, arith, ap, subst, ◌∙◌}
use Rattle.std.proofs.Math.Seq.{map-set_same}
use Rattle.steal_workers.specs.Collecting.{HasRoom}
use Rattle.steal_workers.specs.Workers.{station_of}
use Rattle.steal_workers.proofs.Asking.{on_ok, ok_step}
use Rattle.steal_workers.proofs.Ready.{root_begun}
use Rattle.steal_workers.proofs.pool.prepare.Goals as goal

pub returns-clause-workers : goal.returns-clause-workers
returns-clause-workers g c = on_ok c.begin.result _ (search rules)

pub returns-clause-stations : goal.returns-clause-stations
returns-clause-stations g c =
    let here = c.index_mut.result.now in
    on_ok c.begin.result _ (map-set_same station_of c.args.hired.now.items 0 c.begin.new.self here (c.begin.ensures.station ∙ ap station_of c.index_mut.ensures.value))

pub returns-clause-root : goal.returns-clause-root
returns-clause-root g c =
    ok_step c.begin.result _ _ c.begin.ensures.ok
    (λ pushed. root_begun c.args.hired.now.items c.index_mut.result.now c.begin.new.self c.requires c.index_mut.ensures.value pushed)

pub returns-clause-running : goal.returns-clause-running
returns-clause-running g c = on_ok c.begin.result _ (c.reserve.ensures.items, c.reserve.ensures.len, omega (arith, c.in_ok-reserve.ensures.ok, c.len.ensures))

pub returns-clause-back : goal.returns-clause-back
returns-clause-back g c = on_ok c.begin.result _ (c.reserve-2.ensures.same, subst (λ many. HasRoom many c.reserve-2.new.self) c.len-2.ensures c.in_ok-reserve-2.ensures.room)
