use Rattle.std.proofs.Common.{◌≤◌}
use Rattle.std.proofs.lemmas.Result.{IfOk-weaker}
use Rattle.tool_commands.proofs.RunCauses.{ran_status}
use Rattle.command_jobs.proofs.performing.perform.Goals as goal

pub returns-in-Record-clause-status : goal.returns-in-Record-clause-status
returns-in-Record-clause-status g c =
    IfOk-weaker c.record_file.result _ (λ status. status ≤ 4) (λ status done. ran_status _ _ _ _ status done.1) c.record_file.ensures.job.done

pub returns-in-Record-clause-job : goal.returns-in-Record-clause-job
returns-in-Record-clause-job g c = rw c.in-Record.is c.record_file.ensures.job

pub returns-in-Record-clause-recorded : goal.returns-in-Record-clause-recorded
returns-in-Record-clause-recorded g c = rw c.in-Record.is c.record_file.ensures.recorded

pub returns-in-Record-clause-recorded_first : goal.returns-in-Record-clause-recorded_first
returns-in-Record-clause-recorded_first g c = rw c.in-Record.is c.record_file.ensures.recorded_first

pub returns-in-Record-clause-barred : goal.returns-in-Record-clause-barred
returns-in-Record-clause-barred g c = rw c.in-Record.is c.record_file.ensures.barred
