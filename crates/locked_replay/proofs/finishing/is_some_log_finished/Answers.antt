use Rattle.std.proofs.Common.{sym}
use Rattle.locked_replay.proofs.finishing.is_some_log_finished.Goals as goal

pub returns-then-is_some_log_finished_last : goal.returns-then-is_some_log_finished_last
returns-then-is_some_log_finished_last g c = sym (c.is_some_log_finished_last.ensures c.if-is_some_log_finished_last.true)
