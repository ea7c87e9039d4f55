use Rattle.std.proofs.Common.{rules, arith, Err, ap}
use Rattle.std.proofs.lemmas.Grind.{common_steps}
use Rattle.std.proofs.lemmas.Result.{err_from_is_err_and}
use Rattle.locked_replay.specs.declared.fault.RunFault.{RunFault}
use Rattle.program_runs.proofs.Lacking.{left_fault, beyond_limit}
use Rattle.program_runs.proofs.running.take_run.Goals as goal

pub returns-in_err-taken-clause-fault : goal.returns-in_err-taken-clause-fault
returns-in_err-taken-clause-fault g c =
    let gone = err_from_is_err_and c.from_residual.result c.from_residual.ensures.1 in
    let told = c.in_err-taken.ensures in
    rw (gone.1, gone.2) (left_fault c.args.program.now c.args.limit c.args.gate c.in_err-taken.field-0.0 c.requires
    (λ same. told.strange (ap (λ (f : RunFault). Err f) same))
    (λ same. told.faults.0 (ap (λ (f : RunFault). Err f) same))
    (λ same. told.faults.1 (ap (λ (f : RunFault). Err f) same))
    (λ same. told.faults.2 (ap (λ (f : RunFault). Err f) same)))

pub returns-then-len-limit-clause-fault : goal.returns-then-len-limit-clause-fault
returns-then-len-limit-clause-fault g c =
    beyond_limit c.args.program.now c.args.limit c.in_ok-taken.taken.entries.items c.in_ok-taken.ensures.run (first_of (search rules, grind (arith, common_steps)))

pub returns-clause-whole : goal.returns-clause-whole
returns-clause-whole g c = record {
  run = c.in_ok-taken.ensures.run;
  memory = search rules;
  clean = c.in_ok-taken.ensures.clean;
  within = first_of (search rules, grind (arith, common_steps));
}
