use Rattle.std.proofs.Common.{rules, refl}
use Rattle.access_table.proofs.table.rule_word.Goals as goal

pub returns-in-Write-Write : goal.returns-in-Write-Write
returns-in-Write-Write c = rw (c.in-Write-Write.is-0, c.in-Write-Write.is-1) refl

pub returns-in-Write-Bump : goal.returns-in-Write-Bump
returns-in-Write-Bump c = rw (c.in-Write-Bump.is-0, c.in-Write-Bump.is-1) refl

pub returns-in-Write-Read : goal.returns-in-Write-Read
returns-in-Write-Read c = rw (c.in-Write-Read.is-0, c.in-Write-Read.is-1) refl

pub returns-in-Bump-Write : goal.returns-in-Bump-Write
returns-in-Bump-Write c = rw (c.in-Bump-Write.is-0, c.in-Bump-Write.is-1) refl

pub returns-in-Bump-Read : goal.returns-in-Bump-Read
returns-in-Bump-Read c = rw (c.in-Bump-Read.is-0, c.in-Bump-Read.is-1) refl

pub returns-in-Read-Write : goal.returns-in-Read-Write
returns-in-Read-Write c = rw (c.in-Read-Write.is-0, c.in-Read-Write.is-1) refl

pub returns-in-Read-Bump : goal.returns-in-Read-Bump
returns-in-Read-Bump c = rw (c.in-Read-Bump.is-0, c.in-Read-Bump.is-1) refl

pub returns-in-Put-Put : goal.returns-in-Put-Put
returns-in-Put-Put c = rw (c.in-Put-Put.is-0, c.in-Put-Put.is-1) refl

pub returns-in-Put-Get : goal.returns-in-Put-Get
returns-in-Put-Get c = rw (c.in-Put-Get.is-0, c.in-Put-Get.is-1) refl

pub returns-in-Get-Put : goal.returns-in-Get-Put
returns-in-Get-Put c = rw (c.in-Get-Put.is-0, c.in-Get-Put.is-1) refl

pub returns-in-Get-Get : goal.returns-in-Get-Get
returns-in-Get-Get c = rw (c.in-Get-Get.is-0, c.in-Get-Get.is-1) refl

pub returns-in_default : goal.returns-in_default
returns-in_default c = search rules
