-- Where each pair stands in the list of conflicts.
use Rattle.std.proofs.Common.{rules, refl, lit<}
use Rattle.access_table.proofs.table.rule.Goals as goal

pub returns-in-Read-Write-clause-listed : goal.returns-in-Read-Write-clause-listed
returns-in-Read-Write-clause-listed c = rw (c.in-Read-Write.is-0, c.in-Read-Write.is-1) (2, lit< tt, refl)

pub returns-in-Write-Bump-clause-listed : goal.returns-in-Write-Bump-clause-listed
returns-in-Write-Bump-clause-listed c = rw (c.in-Write-Bump.is-0, c.in-Write-Bump.is-1) (3, lit< tt, refl)

pub returns-in-Read-Bump-clause-listed : goal.returns-in-Read-Bump-clause-listed
returns-in-Read-Bump-clause-listed c = rw (c.in-Read-Bump.is-0, c.in-Read-Bump.is-1) (4, lit< tt, refl)

pub returns-in-Write-Read-clause-listed : goal.returns-in-Write-Read-clause-listed
returns-in-Write-Read-clause-listed c = rw (c.in-Write-Read.is-0, c.in-Write-Read.is-1) (5, lit< tt, refl)

pub returns-in-Bump-Read-clause-listed : goal.returns-in-Bump-Read-clause-listed
returns-in-Bump-Read-clause-listed c = rw (c.in-Bump-Read.is-0, c.in-Bump-Read.is-1) (6, lit< tt, refl)

pub returns-in-Put-Put-clause-listed : goal.returns-in-Put-Put-clause-listed
returns-in-Put-Put-clause-listed c = rw (c.in-Put-Put.is-0, c.in-Put-Put.is-1) (7, lit< tt, refl)

pub returns-in-Get-Put-clause-listed : goal.returns-in-Get-Put-clause-listed
returns-in-Get-Put-clause-listed c = rw (c.in-Get-Put.is-0, c.in-Get-Put.is-1) (8, lit< tt, refl)

pub returns-in-Put-Get-clause-listed : goal.returns-in-Put-Get-clause-listed
returns-in-Put-Get-clause-listed c = rw (c.in-Put-Get.is-0, c.in-Put-Get.is-1) (9, lit< tt, refl)

pub returns-in-Write-Write-clause-value : goal.returns-in-Write-Write-clause-value
returns-in-Write-Write-clause-value c = rw (c.in-Write-Write.is-0, c.in-Write-Write.is-1) refl

pub returns-in-Write-Bump-clause-value : goal.returns-in-Write-Bump-clause-value
returns-in-Write-Bump-clause-value c = rw (c.in-Write-Bump.is-0, c.in-Write-Bump.is-1) refl

pub returns-in-Write-Read-clause-value : goal.returns-in-Write-Read-clause-value
returns-in-Write-Read-clause-value c = rw (c.in-Write-Read.is-0, c.in-Write-Read.is-1) refl

pub returns-in-Bump-Write-clause-value : goal.returns-in-Bump-Write-clause-value
returns-in-Bump-Write-clause-value c = rw (c.in-Bump-Write.is-0, c.in-Bump-Write.is-1) refl

pub returns-in-Bump-Read-clause-value : goal.returns-in-Bump-Read-clause-value
returns-in-Bump-Read-clause-value c = rw (c.in-Bump-Read.is-0, c.in-Bump-Read.is-1) refl

pub returns-in-Read-Write-clause-value : goal.returns-in-Read-Write-clause-value
returns-in-Read-Write-clause-value c = rw (c.in-Read-Write.is-0, c.in-Read-Write.is-1) refl

pub returns-in-Read-Bump-clause-value : goal.returns-in-Read-Bump-clause-value
returns-in-Read-Bump-clause-value c = rw (c.in-Read-Bump.is-0, c.in-Read-Bump.is-1) refl

pub returns-in-Put-Put-clause-value : goal.returns-in-Put-Put-clause-value
returns-in-Put-Put-clause-value c = rw (c.in-Put-Put.is-0, c.in-Put-Put.is-1) refl

pub returns-in-Put-Get-clause-value : goal.returns-in-Put-Get-clause-value
returns-in-Put-Get-clause-value c = rw (c.in-Put-Get.is-0, c.in-Put-Get.is-1) refl

pub returns-in-Get-Put-clause-value : goal.returns-in-Get-Put-clause-value
returns-in-Get-Put-clause-value c = rw (c.in-Get-Put.is-0, c.in-Get-Put.is-1) refl

pub returns-in-Get-Get-clause-value : goal.returns-in-Get-Get-clause-value
returns-in-Get-Get-clause-value c = rw (c.in-Get-Get.is-0, c.in-Get-Get.is-1) refl

pub returns-in_default-clause-listed : goal.returns-in_default-clause-listed
returns-in_default-clause-listed c = search rules

pub returns-in_default-clause-value : goal.returns-in_default-clause-value
returns-in_default-clause-value c = search rules

pub returns-in_default-2 : goal.returns-in_default-2
returns-in_default-2 c = search rules

pub returns-in_default-3 : goal.returns-in_default-3
returns-in_default-3 c = search rules

pub returns-in_default-4 : goal.returns-in_default-4
returns-in_default-4 c = search rules

pub returns-in_default-5 : goal.returns-in_default-5
returns-in_default-5 c = search rules

pub returns-in_default-6-clause-listed : goal.returns-in_default-6-clause-listed
returns-in_default-6-clause-listed c = search rules

pub returns-in_default-6-clause-value : goal.returns-in_default-6-clause-value
returns-in_default-6-clause-value c = search rules
