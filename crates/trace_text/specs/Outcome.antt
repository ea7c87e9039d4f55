-- What the code's places read: a value, or the lowest cause.
use Rattle.std.specs.Prelude.{◌≡◌, ℕ, Option, Result, Ok, List}
use Rattle.std.specs.Option.{option_to_list}
use Rattle.text_words.specs.declared.fault.Cause.{Cause}
use Rattle.model_accesses.specs.declared.kind.Kind.{Kind}
use Rattle.model_accesses.specs.declared.kind.Kind.TheVariants as kind
use Rattle.text_words.specs.Values.{Known}
use Rattle.trace_text.specs.LineGrammar as line
use Rattle.trace_text.specs.Lines.{Place, Value, WordMeans, a_value, OfNumber}
use Rattle.trace_text.specs.Faults.{WordFault}

-- The answer is what the word means in its place, or the lowest cause why it means nothing.
abbrev pub Reads : {A : Type 0} → Known → Place → List ℕ → Result A Cause → (A → Value) → Type 0
Reads known = line.Reads (WordMeans known) (WordFault known)

-- The first word is taken, and the answer is what it means in its place; or there is none.
abbrev pub TakesWord : {A : Type 0} → Known → Place → List (List ℕ) → List (List ℕ) → Result A Cause → (A → Value) → Type 0
TakesWord known = line.TakesWord (WordMeans known) (WordFault known)

-- The same of the value of an access, where its kind has one. Where it has none, nothing is taken, and the answer is 0.
abbrev pub TakesValue : Known → Kind → List (List ℕ) → List (List ℕ) → Result ℕ Cause → Type 0
TakesValue known kind.Read before after answer = (after ≡ before) × (answer ≡ Ok 0)
TakesValue known kind.Get before after answer = (after ≡ before) × (answer ≡ Ok 0)
TakesValue known kind before after answer = TakesWord known a_value before after answer OfNumber

-- The words fit the places, and the answer is what they mean; or it is the lowest cause.
abbrev pub Fits : {A : Type 0} → Known → List Place → Option Place → List (List ℕ) → Result A Cause → (A → List Value) → Type 0
Fits known places last = line.Fits (WordMeans known) (WordFault known) places (option_to_list last)
