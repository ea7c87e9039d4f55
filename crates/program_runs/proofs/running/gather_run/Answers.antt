use Rattle.std.proofs.Common.{rules, arith}
use Rattle.std.proofs.lemmas.Grind.{common_steps}
use Rattle.std.proofs.lemmas.Result.{err_from_is_err_and}
use Rattle.program_runs.proofs.Lacking.{gathered_fault, beyond_limit}
use Rattle.program_runs.proofs.running.gather_run.Goals as goal

pub returns-in_err-whole-clause-fault : goal.returns-in_err-whole-clause-fault
returns-in_err-whole-clause-fault g c =
    let gone = err_from_is_err_and c.from_residual.result c.from_residual.ensures.1 in
    rw (gone.1, gone.2) (gathered_fault c.args.program.now c.args.limit c.args.logs.items c.in_err-whole.field-0.0 c.in_err-whole.ensures.faults)

pub returns-then-len-limit-clause-fault : goal.returns-then-len-limit-clause-fault
returns-then-len-limit-clause-fault g c =
    beyond_limit c.args.program.now c.args.limit c.in_ok-whole.whole.entries.items c.in_ok-whole.ensures.run (first_of (search rules, grind (arith, common_steps)))
