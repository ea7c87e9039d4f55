use denote.Param.Send.{sendable}
use Rattle.std.proofs.Crossing.{crosses}
use Rattle.steal_workers.proofs.Sharing.{locked_sync}
use Rattle.call_tests.proofs.programs.workers.meet.Goals as goal

pub run-requires-sync-G : goal.run-requires-sync-G
run-requires-sync-G g c κs within = search (sendable, crosses, locked_sync) depth 40 fits 20000
