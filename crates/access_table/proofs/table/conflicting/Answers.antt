use Rattle.std.proofs.Common.{rules}
use Rattle.access_table.proofs.table.conflicting.Goals as goal

pub returns : goal.returns
returns c = search rules
