use Rattle.locked_replay.specs.declared.worker.WorkerLog.{WorkerLog}
use Rattle.locked_replay.proofs.Checked.{sum_next, sum_beyond, sum_all}
use Rattle.locked_replay.proofs.logs.asked_of.Goals as goal

pub loop-log-preserved : goal.loop-log-preserved
loop-log-preserved g c =
    sum_next (λ (log : WorkerLog _ _). log.seat.asked) c.args.logs.now c.loop-log.log-index c.log-item.result c.loop-log-test.true c.log-item.is c.loop-log.invariant c.asked.ensures (c.in_ok-asked.ensures).1

pub returns-in_err-asked : goal.returns-in_err-asked
returns-in_err-asked g c =
    rw c.from_residual.ensures
    (sum_beyond (λ (log : WorkerLog _ _). log.seat.asked) c.args.logs.now c.loop-log.log-index c.log-item.result c.loop-log-test.true c.log-item.is c.loop-log.invariant c.asked.ensures (c.in_err-asked.ensures))

pub returns : goal.returns
returns g c = sum_all (λ (log : WorkerLog _ _). log.seat.asked) c.args.logs.now c.loop-log.log-index c.loop-log-test.false c.loop-log.invariant
