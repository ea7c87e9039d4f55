use Rattle.std.proofs.Common.{rules}
use Rattle.race_report.proofs.json_report.cells_value.Goals as goal

pub returns-in-len1 : goal.returns-in-len1
returns-in-len1 c = search rules
