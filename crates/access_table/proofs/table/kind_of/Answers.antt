use Rattle.std.proofs.Common.{rules}
use Rattle.access_table.proofs.table.kind_of.Goals as goal

pub returns-in-write : goal.returns-in-write
returns-in-write c = search rules

pub returns-in-bump : goal.returns-in-bump
returns-in-bump c = search rules

pub returns-in-read : goal.returns-in-read
returns-in-read c = search rules

pub returns-in-update : goal.returns-in-update
returns-in-update c = search rules

pub returns-in-put : goal.returns-in-put
returns-in-put c = search rules

pub returns-in-get : goal.returns-in-get
returns-in-get c = search rules

pub returns-in_default : goal.returns-in_default
returns-in_default c = search rules
