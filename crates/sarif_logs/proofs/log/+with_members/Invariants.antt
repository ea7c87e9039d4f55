use Rattle.std.proofs.Common.{length}
use Rattle.sarif_logs.proofs.log.+with_members.Given as goal

abbrev pub decreases-with_members : goal.decreases-with_members
decreases-with_members l = length l.keys.now
