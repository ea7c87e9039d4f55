use Rattle.std.proofs.Common.{refl, sym, inl, inr}
use Rattle.program_lines.proofs.print.arguments.Goals as goal

pub returns-in-Let : goal.returns-in-Let
returns-in-Let c = λ version mems functions named. rw (c.in-Let.is, c.register_name.ensures) refl

pub returns-in-Read : goal.returns-in-Read
returns-in-Read c = λ version mems functions named. rw (c.in-Read.is, c.register_name-in-Read.ensures) refl

pub returns-in-Get : goal.returns-in-Get
returns-in-Get c = λ version mems functions named. rw (c.in-Get.is, c.register_name-in-Get.ensures, c.reducer_name.ensures) refl

pub returns-in-ParallelFor : goal.returns-in-ParallelFor
returns-in-ParallelFor c = λ version mems functions named.
    rw (c.in-ParallelFor.is, c.register_name-in-ParallelFor.ensures, sym (rw c.in-ParallelFor.is at named)) refl

pub returns-in-If : goal.returns-in-If
returns-in-If c = λ version mems functions named. rw (c.in-If.is, c.register_name-in-If.ensures) refl

pub returns-in-Write : goal.returns-in-Write
returns-in-Write c = λ version mems functions named. elim c.in-Write.is [ inl it ↦ rw it.1 refl | inr it ↦ rw it.1 refl ]

pub returns-in-Update : goal.returns-in-Update
returns-in-Update c = λ version mems functions named.
    rw c.reducer_name-in-Update.ensures (elim c.in-Update.is [ inl it ↦ rw it.1 refl | inr it ↦ rw it.1 refl ])

pub returns-in-Spawn : goal.returns-in-Spawn
returns-in-Spawn c = λ version mems functions named.
    elim c.in-Spawn.is [
      | inl it ↦ rw (it.2, sym (rw it.2 at named)) refl
      | inr it ↦ rw (it.2, sym (rw it.2 at named)) refl
    ]

pub returns-in-Sync : goal.returns-in-Sync
returns-in-Sync c = λ version mems functions named.
    elim c.in-Sync.is [ inl it ↦ rw it.1 refl | inr it ↦ elim it [ inl it ↦ rw it.2 refl | inr it ↦ rw it.1 refl ] ]
