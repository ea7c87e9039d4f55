-- What an answer does to a function's registers, for each kind of act. Where an answer does not belong to the act there is nothing.
use Rattle.std.specs.Prelude.{Option, Some, None, slice_set}
use Rattle.model_bodies.specs.declared.statement.Register.{Register}
use Rattle.model_histories.specs.declared.answer.Answer.{Answer}
use Rattle.model_histories.specs.declared.answer.Answer.TheVariants.{Split, Same, Joined, Waits, Resumed, Ended}
use Rattle.model_histories.specs.declared.answer.Answer.TheVariants.{EndedJoined, Finished, Granted, Value, Refused}
use Rattle.model_histories.specs.declared.answer.Answer.TheVariants.{Unset}
use Rattle.model_programs.specs.Values.{Registers, with_ok}

-- A read: where it is granted the register takes the value, and where it is refused the register stays.
abbrev pub after_read : Register → Answer → Registers → Option Registers
after_read register (Value value) registers = Some (slice_set (with_ok 1 registers) register.index value)
after_read register (Refused rule witness) registers = Some (with_ok 0 registers)
after_read register _ registers = None

-- A get: as a read, and it may find nothing.
abbrev pub after_get : Register → Answer → Registers → Option Registers
after_get register (Value value) registers = Some (slice_set (with_ok 1 registers) register.index value)
after_get register (Refused rule witness) registers = Some (with_ok 0 registers)
after_get register Unset registers = Some (with_ok 0 registers)
after_get register _ registers = None

-- A write, a bump or a put.
abbrev pub after_write : Answer → Registers → Option Registers
after_write Granted registers = Some (with_ok 1 registers)
after_write (Refused rule witness) registers = Some (with_ok 0 registers)
after_write _ registers = None

-- An update, which is never refused.
abbrev pub after_update : Answer → Registers → Option Registers
after_update Granted registers = Some (with_ok 1 registers)
after_update _ registers = None

-- A spawn.
abbrev pub after_spawn : Answer → Registers → Option Registers
after_spawn (Split strands) registers = Some registers
after_spawn _ registers = None

-- A sync.
abbrev pub after_sync : Answer → Registers → Option Registers
after_sync Same registers = Some registers
after_sync (Joined join) registers = Some registers
after_sync Waits registers = Some registers
after_sync _ registers = None

-- Who began a function: a call, or a spawn. The root counts as spawned.
pub data Origin : Type 0 where
  FromCall FromSpawn : Origin

-- The answers of a return.
abbrev pub IsReturned : Origin → Answer → Type 0
IsReturned FromCall Resumed = Unit {0}
IsReturned FromSpawn Ended = Unit {0}
IsReturned FromSpawn (EndedJoined join) = Unit {0}
IsReturned FromSpawn Finished = Unit {0}
IsReturned _ _ = ⊥
