-- Faults as numbers.
use Rattle.std.specs.Prelude.{ℕ}
use Rattle.serial_judge.specs.declared.fault.Fault.{Fault}
use Rattle.serial_judge.specs.declared.fault.Fault.TheVariants.{Unsynced, Root, Records, Events, Memory}

-- a call that is taken answers 0
abbrev pub number_of : Fault → ℕ
number_of Unsynced = 1
number_of Root = 2
number_of Records = 3
number_of Events = 4
number_of Memory = 5

-- there is no kind with that number
abbrev pub bad_kind : ℕ
bad_kind = 6

-- no mark has begun, or none has ended
abbrev pub no_marks : ℕ
no_marks = 7
