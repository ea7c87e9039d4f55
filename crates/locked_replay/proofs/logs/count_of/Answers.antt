use Rattle.std.proofs.Common.{length}
use Rattle.locked_replay.specs.declared.worker.WorkerLog.{WorkerLog}
use Rattle.locked_replay.proofs.Checked.{sum_next, sum_beyond, sum_all}
use Rattle.locked_replay.proofs.logs.count_of.Goals as goal

pub loop-log-preserved : goal.loop-log-preserved
loop-log-preserved g c =
    sum_next (λ (log : WorkerLog _ _). length log.receipts.items) c.args.logs.now c.loop-log.log-index c.log-item.result c.loop-log-test.true c.log-item.is c.loop-log.invariant c.len.ensures (c.in_ok-count.ensures).1

pub returns-in_err-count : goal.returns-in_err-count
returns-in_err-count g c =
    rw c.from_residual.ensures
    (sum_beyond (λ (log : WorkerLog _ _). length log.receipts.items) c.args.logs.now c.loop-log.log-index c.log-item.result c.loop-log-test.true c.log-item.is c.loop-log.invariant c.len.ensures (c.in_err-count.ensures))

pub returns : goal.returns
returns g c = sum_all (λ (log : WorkerLog _ _). length log.receipts.items) c.args.logs.now c.loop-log.log-index c.loop-log-test.false c.loop-log.invariant
