use Rattle.tool_commands.proofs.CleanReports.{clean_report_law}
use Rattle.tool_commands.proofs.laws.clean_report_law.Goals as goal

pub returns : goal.returns
returns c = clean_report_law
