use Rattle.std.proofs.Common.{refl}
use Rattle.access_table.proofs.table.is_memory.Goals as goal

pub returns-in-Bump : goal.returns-in-Bump
returns-in-Bump c = rw c.in-Bump.is refl

pub returns-in-Update : goal.returns-in-Update
returns-in-Update c = rw c.in-Update.is refl

pub returns-in-Put : goal.returns-in-Put
returns-in-Put c = rw c.in-Put.is refl

pub returns-in-Get : goal.returns-in-Get
returns-in-Get c = rw c.in-Get.is refl
