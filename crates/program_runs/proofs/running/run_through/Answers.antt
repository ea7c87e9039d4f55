use denote.Param.Send.{sendable}
use Rattle.std.proofs.CrossingOver.{crosses}
use Rattle.steal_workers.proofs.Sharing.{locked_sync_over}
use Rattle.program_runs.proofs.running.run_through.Goals as goal

pub run-requires-sync-G : goal.run-requires-sync-G
run-requires-sync-G g c κs within = search (sendable, crosses, locked_sync_over) depth 40 fits 20000
