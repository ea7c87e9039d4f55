use Rattle.std.proofs.Common.{Err, ap}
use Rattle.locked_replay.specs.declared.fault.RunFault.{RunFault}
use Rattle.program_runs.proofs.Lacking.{nobody_brought, left_fault}
use Rattle.program_runs.proofs.running.diagnose_unfinished.Goals as goal

pub returns-in-Ok : goal.returns-in-Ok
returns-in-Ok g c = nobody_brought c.args.gate.now c.requires c.in-Ok.ensures.run.1

pub returns-in-Err : goal.returns-in-Err
returns-in-Err g c =
    left_fault c.args.program.now c.args.limit c.args.gate.now c.in-Err.fault c.requires
    (λ same. c.in-Err.ensures.strange (ap (λ (f : RunFault). Err f) same))
    (λ same. c.in-Err.ensures.faults.0 (ap (λ (f : RunFault). Err f) same))
    (λ same. c.in-Err.ensures.faults.1 (ap (λ (f : RunFault). Err f) same))
    (λ same. c.in-Err.ensures.faults.2 (ap (λ (f : RunFault). Err f) same))
