use Rattle.std.proofs.lemmas.Result.{err_from_is_err_and}
use Rattle.tool_commands.proofs.ReadPrograms.{no_program_to_tell}
use Rattle.tool_commands.proofs.traced_run.trace_run_of_text.Goals as goal

pub returns-in_err-program-clause-fault : goal.returns-in_err-program-clause-fault
returns-in_err-program-clause-fault g c =
    let gone = err_from_is_err_and c.from_residual.result c.from_residual.ensures.1 in
    rw (gone.1, gone.2) (no_program_to_tell _ c.args.limit c.in_err-program.field-0.0 c.in_err-program.ensures.fault)
