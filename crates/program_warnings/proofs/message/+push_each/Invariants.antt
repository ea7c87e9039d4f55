use Rattle.std.proofs.Common.{length}
use Rattle.program_warnings.proofs.message.+push_each.Given as goal

abbrev pub decreases-push_each : goal.decreases-push_each
decreases-push_each l = length l.warnings.now
