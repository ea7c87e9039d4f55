use Rattle.program_text.specs.Programs.{contents}
use Rattle.tool_commands.proofs.RunCauses.{run_lacking}
use Rattle.tool_commands.proofs.run.whole_run.Goals as goal

pub returns-in-Err-clause-fault : goal.returns-in-Err-clause-fault
returns-in-Err-clause-fault g c =
    rw (c.fault_of.ensures) (run_lacking (contents c.args.program.now) c.args.limit c.in-Err.cut.fault c.in-Err.ensures.fault)
