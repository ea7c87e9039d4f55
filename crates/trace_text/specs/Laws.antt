-- Laws of the grammar.
use Rattle.std.specs.Prelude.{◌≡◌, ◌⊎◌, ℕ, List}
use Rattle.text_words.specs.declared.fault.Cause.{Cause}
use Rattle.text_words.specs.Values.{Contents}
use Rattle.trace_text.specs.Grammar.{TextMeans}
use Rattle.trace_text.specs.Faults.{TextFaults}

-- A text means at most one trace.
abbrev pub OneMeaning : Type 0
OneMeaning = (text : List ℕ) (one other : Contents) → TextMeans text one → TextMeans text other → one ≡ other

-- Each text means a trace or has a fault.
abbrev pub MeaningOrFault : Type 0
MeaningOrFault =
    (text : List ℕ) → ((contents : Contents) × TextMeans text contents) ⊎ ((line : ℕ) × (why : Cause) × TextFaults text line why)

-- No text has both.
abbrev pub MeaningExcludesFault : Type 0
MeaningExcludesFault =
    (text : List ℕ) (contents : Contents) (line : ℕ) (why : Cause) → TextMeans text contents → TextFaults text line why → ⊥

-- A text has at most one fault.
abbrev pub OneFault : Type 0
OneFault =
    (text : List ℕ) (line other : ℕ) (why cause : Cause) →
    TextFaults text line why → TextFaults text other cause → (line ≡ other) × (why ≡ cause)
