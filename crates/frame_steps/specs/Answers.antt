-- What becomes of a function's registers.
use Rattle.std.specs.Prelude.{◌≡◌, Bool, true, false, Option, Some, None}
use Rattle.model_programs.specs.Values.{Registers}

-- The registers become what an answer makes of them, where there is anything, and else they stay; and which of the two it is.
abbrev pub IsTaken : Option Registers → (belongs : Bool) → (before after : Registers) → Type 0
IsTaken None belongs before after = (belongs ≡ false) × (after ≡ before)
IsTaken (Some registers) belongs before after = (belongs ≡ true) × (after ≡ registers)
