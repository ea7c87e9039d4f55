use Rattle.std.proofs.Common.{refl}
use Rattle.access_table.proofs.table.word.Goals as goal

pub returns-in-Put : goal.returns-in-Put
returns-in-Put c = rw c.in-Put.is refl

pub returns-in-Get : goal.returns-in-Get
returns-in-Get c = rw c.in-Get.is refl
