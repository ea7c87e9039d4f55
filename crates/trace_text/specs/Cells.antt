-- Why a word names no cell.
use Rattle.std.specs.Prelude.{ℕ, true, false, List}
use Rattle.text_words.specs.declared.fault.Cause.{Cause}
use Rattle.text_words.specs.declared.fault.Cause.TheVariants.{BadWord, BadNumber, UnknownName}
use Rattle.text_words.specs.declared.value.Mem.{Mem}
use Rattle.text_words.specs.Text.{IsName, BeginsWithDigit}
use Rattle.trace_text.specs.Faults.{IsBadIndex, IsUndeclared}

abbrev pub IsSingleFault : List Mem → List ℕ → Cause → Type 0
IsSingleFault mems name BadWord = IsName name → ⊥
IsSingleFault mems name UnknownName = IsName name × IsUndeclared mems name false
IsSingleFault mems name cause = ⊥

abbrev pub IsElementFault : List Mem → List ℕ → List ℕ → Cause → Type 0
IsElementFault mems name index BadWord = IsName name → BeginsWithDigit index → ⊥
IsElementFault mems name index BadNumber = IsName name × BeginsWithDigit index × IsBadIndex mems name index
IsElementFault mems name index UnknownName =
    IsName name × BeginsWithDigit index × (IsBadIndex mems name index → ⊥) × IsUndeclared mems name true
IsElementFault mems name index cause = ⊥
