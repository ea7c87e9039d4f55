use Rattle.std.proofs.Common.{◌≡◌, List, false, refl, sym, subst, ◌∙◌}
use Rattle.locked_replay.specs.declared.worker.WorkerLog.{WorkerLog}
use Rattle.locked_replay.specs.Finishing.{some_finished}
use Rattle.locked_replay.proofs.finishing.finished_logs.Goals as goal

pub returns-else-is_some_log_finished : goal.returns-else-is_some_log_finished
returns-else-is_some_log_finished g c =
    let none : some_finished c.args.logs.items ≡ false =
    subst (λ (logs : List (WorkerLog _ _)). some_finished logs ≡ false) c.as_slice.ensures.value (sym c.is_some_log_finished.ensures ∙ c.if-is_some_log_finished.false) in
    rw none refl
