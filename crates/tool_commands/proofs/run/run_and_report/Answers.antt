use Rattle.std.proofs.Common.{rules}
use Rattle.tool_commands.proofs.CleanReports.{tells_run}
use Rattle.tool_commands.proofs.run.run_and_report.Goals as goal

pub returns-clause-ok : goal.returns-clause-ok
returns-clause-ok g c =
    tells_run c.args.program.now c.args.limit _ _ _ _ c.in_ok-whole.ensures.whole.run c.in_ok-whole.ensures.whole.within c.in_ok-whole.ensures.whole.memory (search rules) (search rules)
