-- Causes in their order, and the lowest of them.
use Rattle.std.specs.Prelude.{ℕ, ◌<◌, Result, Ok, Err, nat_lt, cond}
use Rattle.text_words.specs.declared.fault.Cause.{Cause}
use Rattle.text_words.specs.declared.fault.Cause.TheVariants.{NotText, BadHeader, BadWord, BadNumber, UnknownName}
use Rattle.text_words.specs.declared.fault.Cause.TheVariants.{TwiceNamed, BadNesting, NoMain, TooMany}

abbrev pub cause_number : Cause → ℕ
cause_number NotText = 1
cause_number BadHeader = 2
cause_number BadWord = 3
cause_number BadNumber = 4
cause_number UnknownName = 5
cause_number TwiceNamed = 6
cause_number BadNesting = 7
cause_number NoMain = 8
cause_number TooMany = 9

-- The cause holds, and none with a lower number does.
abbrev pub IsLowest : (Cause → Type 0) → Cause → Type 0
IsLowest Holds cause = Holds cause × ((lower : Cause) → cause_number lower < cause_number cause → Holds lower → ⊥)

-- Both values, or the lower cause.
abbrev pub both_of : {A B : Type 0} → Result A Cause → Result B Cause → Result (A × B) Cause
both_of (Ok x) (Ok y) = Ok (x, y)
both_of (Ok x) (Err d) = Err d
both_of (Err c) (Ok y) = Err c
both_of (Err c) (Err d) = cond (nat_lt (cause_number c) (cause_number d)) (Err c) (Err d)
