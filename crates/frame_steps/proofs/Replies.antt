-- Which answers belong to a statement, and what they do to the registers.
use Rattle.std.proofs.Common.{◌≡◌, ℕ, ◌⊎◌, inl, inr, Some, refl, sym, subst}
use Rattle.model_bodies.specs.declared.statement.Register.{Register}
use Rattle.model_bodies.specs.declared.statement.Operand.{Operand}
use Rattle.model_bodies.specs.declared.statement.Statement.{Statement}
use Rattle.model_bodies.specs.declared.statement.Statement.TheVariants.{Read, Write, Bump, Update, Put, Get, Spawn, Call, Sync}
use Rattle.model_accesses.specs.declared.request.Act.{Act}
use Rattle.model_histories.specs.declared.answer.Answer.{Answer}
use Rattle.model_histories.specs.declared.answer.Answer.TheVariants.{Split, Same, Joined, Waits, Granted, Value, Refused, Unset}
use Rattle.model_programs.specs.Values.{Registers}
use Rattle.model_programs.specs.Answers.{Origin, after_read, after_get, after_write, after_update, after_spawn, after_sync}
use Rattle.frame_steps.specs.Requests.{act_of, answered}
use Rattle.frame_steps.specs.Exchanges.{IsSplit, IsSynced, IsCalled, IsWritten, IsUpdated, IsRead, IsGot, Belongs}

pub was_read : (register : Register) (answer : Answer) (registers after : Registers) → after_read register answer registers ≡ Some after → IsRead answer
was_read register (Value value) registers after e = tt
was_read register (Refused rule witness) registers after e = tt
was_read register _ registers after e = cc

pub was_got : (register : Register) (answer : Answer) (registers after : Registers) → after_get register answer registers ≡ Some after → IsGot answer
was_got register (Value value) registers after e = tt
was_got register (Refused rule witness) registers after e = tt
was_got register Unset registers after e = tt
was_got register _ registers after e = cc

pub was_written : (answer : Answer) (registers after : Registers) → after_write answer registers ≡ Some after → IsWritten answer
was_written Granted registers after e = tt
was_written (Refused rule witness) registers after e = tt
was_written _ registers after e = cc

pub was_updated : (answer : Answer) (registers after : Registers) → after_update answer registers ≡ Some after → IsUpdated answer
was_updated Granted registers after e = tt
was_updated _ registers after e = cc

pub was_split : (answer : Answer) (registers after : Registers) → after_spawn answer registers ≡ Some after → IsSplit answer
was_split (Split strands) registers after e = tt
was_split _ registers after e = cc

pub was_synced : (answer : Answer) (registers after : Registers) → after_sync answer registers ≡ Some after → IsSynced answer
was_synced Same registers after e = tt
was_synced (Joined join) registers after e = tt
was_synced Waits registers after e = tt
was_synced _ registers after e = cc

can_read : (register : Register) (answer : Answer) (registers : Registers) → IsRead answer → (after : Registers) × (after_read register answer registers ≡ Some after)
can_read register (Value value) registers h = (_, refl)
can_read register (Refused rule witness) registers h = (_, refl)
can_read register _ registers h = absurd h

can_get : (register : Register) (answer : Answer) (registers : Registers) → IsGot answer → (after : Registers) × (after_get register answer registers ≡ Some after)
can_get register (Value value) registers h = (_, refl)
can_get register (Refused rule witness) registers h = (_, refl)
can_get register Unset registers h = (_, refl)
can_get register _ registers h = absurd h

can_write : (answer : Answer) (registers : Registers) → IsWritten answer → (after : Registers) × (after_write answer registers ≡ Some after)
can_write Granted registers h = (_, refl)
can_write (Refused rule witness) registers h = (_, refl)
can_write _ registers h = absurd h

can_update : (answer : Answer) (registers : Registers) → IsUpdated answer → (after : Registers) × (after_update answer registers ≡ Some after)
can_update Granted registers h = (_, refl)
can_update _ registers h = absurd h

can_spawn : (answer : Answer) (registers : Registers) → IsSplit answer → (after : Registers) × (after_spawn answer registers ≡ Some after)
can_spawn (Split strands) registers h = (_, refl)
can_spawn _ registers h = absurd h

can_sync : (answer : Answer) (registers : Registers) → IsSynced answer → (after : Registers) × (after_sync answer registers ≡ Some after)
can_sync Same registers h = (_, refl)
can_sync (Joined join) registers h = (_, refl)
can_sync Waits registers h = (_, refl)
can_sync _ registers h = absurd h

pub is_same : (answer : Answer) → IsCalled answer → answer ≡ Same
is_same Same h = refl
is_same _ h = absurd h

pub act_is : (one other : Act) → Some one ≡ Some other → one ≡ other
act_is one other e = cc

-- an answer after which the function goes on belongs to what is asked
pub answered_belongs : (origin : Origin) (statement : Statement) (answer : Answer) (registers after : Registers) (act : Act) → act_of statement registers ≡ Some act → answered statement answer registers ≡ Some after → Belongs origin act answer
answered_belongs origin (Read line register location) answer registers after act a e = subst (λ b. Belongs origin b answer) (act_is _ act a) (was_read register answer registers after e)
answered_belongs origin (Write line location value) answer registers after act a e = subst (λ b. Belongs origin b answer) (act_is _ act a) (was_written answer registers after e)
answered_belongs origin (Bump line location value) answer registers after act a e = subst (λ b. Belongs origin b answer) (act_is _ act a) (was_written answer registers after e)
answered_belongs origin (Update line reducer value) answer registers after act a e = subst (λ b. Belongs origin b answer) (act_is _ act a) (was_updated answer registers after e)
answered_belongs origin (Put line reducer value) answer registers after act a e = subst (λ b. Belongs origin b answer) (act_is _ act a) (was_written answer registers after e)
answered_belongs origin (Get line register reducer) answer registers after act a e = subst (λ b. Belongs origin b answer) (act_is _ act a) (was_got register answer registers after e)
answered_belongs origin (Spawn line function argument) answer registers after act a e = subst (λ b. Belongs origin b answer) (act_is _ act a) (was_split answer registers after e)
answered_belongs origin (Sync line) answer registers after act a e = subst (λ b. Belongs origin b answer) (act_is _ act a) (was_synced answer registers after e)
answered_belongs origin (Call line function argument) answer registers after act a e = cc
answered_belongs origin _ answer registers after act a e = cc

-- and one that belongs to it is such an answer, where nothing is called
pub belongs_answered : (origin : Origin) (statement : Statement) (answer : Answer) (registers : Registers) (act : Act) → act_of statement registers ≡ Some act → Belongs origin act answer → ((line function : ℕ) × (argument : Operand) × (statement ≡ Call line function argument)) ⊎ ((after : Registers) × (answered statement answer registers ≡ Some after))
belongs_answered origin (Read line register location) answer registers act a h = inr (can_read register answer registers (subst (λ b. Belongs origin b answer) (sym (act_is _ act a)) h))
belongs_answered origin (Write line location value) answer registers act a h = inr (can_write answer registers (subst (λ b. Belongs origin b answer) (sym (act_is _ act a)) h))
belongs_answered origin (Bump line location value) answer registers act a h = inr (can_write answer registers (subst (λ b. Belongs origin b answer) (sym (act_is _ act a)) h))
belongs_answered origin (Update line reducer value) answer registers act a h = inr (can_update answer registers (subst (λ b. Belongs origin b answer) (sym (act_is _ act a)) h))
belongs_answered origin (Put line reducer value) answer registers act a h = inr (can_write answer registers (subst (λ b. Belongs origin b answer) (sym (act_is _ act a)) h))
belongs_answered origin (Get line register reducer) answer registers act a h = inr (can_get register answer registers (subst (λ b. Belongs origin b answer) (sym (act_is _ act a)) h))
belongs_answered origin (Spawn line function argument) answer registers act a h = inr (can_spawn answer registers (subst (λ b. Belongs origin b answer) (sym (act_is _ act a)) h))
belongs_answered origin (Sync line) answer registers act a h = inr (can_sync answer registers (subst (λ b. Belongs origin b answer) (sym (act_is _ act a)) h))
belongs_answered origin (Call line function argument) answer registers act a h = inl (line, function, argument, refl)
belongs_answered origin _ answer registers act a h = cc
