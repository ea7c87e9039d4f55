-- What is told of a text that means nothing.
use Rattle.std.specs.Prelude.{ℕ, ◌≡◌, Bool, List, ◌++◌, codes}
use Rattle.text_words.specs.declared.fault.Cause.{Cause}
use Rattle.source_quotes.specs.declared.look.Look.{Look}
use Rattle.source_quotes.specs.declared.look.Paint.TheVariants.{Red}
use Rattle.source_quotes.specs.declared.part.Span.{Span}
use Rattle.source_quotes.specs.declared.mistake.Mistake.{Mistake}
use Rattle.source_quotes.specs.Lines.{line_in}
use Rattle.source_quotes.specs.Quotes.{look_of, painted, place, quote}
use Rattle.source_quotes.specs.Parts.{IsWithin, sign_below}
use Rattle.source_quotes.specs.Mistakes.{cause_of, title}

-- the mistake
abbrev pub fault_title : Look → Mistake → List ℕ
fault_title look mistake = painted look Red (codes "error") ++ codes ": " ++ title mistake ++ codes "\n"

-- the faulty line, and a sign below a part of it
abbrev pub fault_quote : Look → List (List ℕ) → ℕ → Span → List ℕ
fault_quote look source number span = quote look source number ++ sign_below look Red (line_in source number) span 94

-- the mistake, the place, and the faulty line with a sign below the part that is wrong
abbrev pub fault_text : Look → List ℕ → List (List ℕ) → ℕ → Mistake → Span → List ℕ
fault_text look file source number mistake span =
    fault_title look mistake ++ place look file number ++ fault_quote look source number span ++ codes "\n"

-- The text tells of this line a mistake that belongs to this cause, with a sign below a part of the line, and then what may help.
pub record TellsFault (is_painted : Bool) (file : List ℕ) (source : List (List ℕ)) (number : ℕ) (why : Cause) (text : List ℕ) : Type 0 where
  pub mistake : Mistake
  pub span : Span
  pub help : List ℕ
  pub of_cause : cause_of mistake ≡ why
  pub within : IsWithin span (line_in source number)
  pub text_is : text ≡ fault_text (look_of is_painted source) file source number mistake span ++ help
