use denote.Param.Send.{sendable}
use Rattle.steal_workers.proofs.Sharing.{locked_sync}
use Rattle.call_tests.proofs.programs.workers.finish.Goals as goal

pub run-requires-sync-G : goal.run-requires-sync-G
run-requires-sync-G g c κs within = search (sendable, locked_sync) depth 40 fits 20000
