use Rattle.race_report.proofs.JudgedRuns.{judged_meets}
use Rattle.tool_commands.proofs.run.report_line.Goals as goal

pub report-requires-clause-entries : goal.report-requires-clause-entries
report-requires-clause-entries g c = judged_meets _ c.args.whole.now.entries.items c.requires.run.0.run.judged

pub report-requires-clause-memory : goal.report-requires-clause-memory
report-requires-clause-memory g c = c.requires.memory.len
