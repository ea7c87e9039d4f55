use Rattle.std.proofs.Common.{length}
use Rattle.race_records.proofs.unjudged.+push_faults.Given as goal

abbrev pub decreases-push_faults : goal.decreases-push_faults
decreases-push_faults l = length l.faults.now
