-- What the code's places read: a value, or the lowest cause.
use Rattle.std.specs.Prelude.{ℕ, Result, List}
use Rattle.text_words.specs.declared.fault.Cause.{Cause}
use Rattle.trace_text.specs.LineGrammar as line
use Rattle.program_lines.specs.Scopes.{NameScope}
use Rattle.program_lines.specs.Places.{Place, Value, WordMeans}
use Rattle.program_lines.specs.Faults.{WordFault}

-- The answer is what the word means in its place, or the lowest cause why it means nothing.
abbrev pub Reads : {A : Type 0} → NameScope → Place → List ℕ → Result A Cause → (A → Value) → Type 0
Reads scope = line.Reads (WordMeans scope) (WordFault scope)

-- The words fit the places, and the answer is what they mean; or it is the lowest cause.
abbrev pub Fits : {A : Type 0} → NameScope → (places last : List Place) → List (List ℕ) → Result A Cause → (A → List Value) → Type 0
Fits scope = line.Fits (WordMeans scope) (WordFault scope)
