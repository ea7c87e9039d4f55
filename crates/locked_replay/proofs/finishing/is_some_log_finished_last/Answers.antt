use Rattle.std.proofs.Common.{rules}
use Rattle.locked_replay.proofs.Finished.{some_log}
use Rattle.locked_replay.proofs.finishing.is_some_log_finished_last.Goals as goal

pub returns-then-is_finished_last : goal.returns-then-is_finished_last
returns-then-is_finished_last g c ends =
    some_log c.args.logs.now c.loop-log.log-index c.log-item.result (search rules) c.log-item.is (c.is_finished_last.ensures c.if-is_finished_last.true)
