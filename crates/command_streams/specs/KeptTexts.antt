-- Texts that are kept as they stand, or as a head and a trace.
use Rattle.std.specs.Prelude.{ℕ, ◌≡◌, ◌≤◌, ◌+◌, ◌-◌, Bool, true, false, Option, List, ◌++◌, take, length}
use Rattle.std.specs.Io.KnownBytes.{Consumes, IsAtEnd}
use Rattle.text_words.specs.Values.{Contents}
use Rattle.trace_text.specs.Grammar.{TextMeans}
use Rattle.trace_text.specs.Traces.{contents}
use Rattle.command_streams.specs.declared.kept.Tail.{Tail}
use Rattle.command_streams.specs.declared.kept.KeptText.{KeptText}
use Rattle.command_streams.specs.declared.kept.KeptText.TheVariants.{Whole, Plain}
use Rattle.command_streams.specs.Watched.{IsCalledAtMost}
use Rattle.command_streams.specs.Streams.{most_bytes, most_reads}
use Rattle.command_streams.specs.PlainTexts.{rejoined, IsPlainText, Progress, ReadsRequests}

-- The text that is kept.
abbrev pub text_of : KeptText → List ℕ
text_of (Whole text) = text.items
text_of (Plain kept) = rejoined kept.head.items kept.count (contents kept.trace)

-- What is kept of it is so.
abbrev pub IsKept : KeptText → Type 0
IsKept (Whole text) = Unit {0}
IsKept (Plain kept) = IsPlainText kept.head.items kept.count (contents kept.trace)

-- The text that is kept means the trace.
pub record KeepsTrace (source : KeptText) (trace : Contents) : Type 0 where
  pub kept : IsKept source
  pub means : TextMeans (text_of source) trace

-- ---- what is read behind the head

-- Plain lines were read, to the end or not. Where it was not, each call of the reader gave a byte.
pub record HasReadRequests {A : Type 0} (old new : Progress A) (called calls : ℕ) (ended : Bool) : Type 0 where
  pub reads : ReadsRequests old new
  pub short : new.done + length new.waiting ≤ most_bytes
  pub end : ended ≡ true → IsAtEnd new.left
  pub called_few : ended ≡ false → IsCalledAtMost ((new.done + length new.waiting) - (old.done + length old.waiting)) called calls

-- All that was read, by what was found behind the head.
abbrev pub restored : (head : List ℕ) → Tail → List ℕ
restored head found = rejoined (take found.end head) found.count (contents found.trace) ++ found.waiting.items

-- What was read behind the head. The whole lines of the head are that of a plain text, and what is restored is the head and what was read
-- behind it.
pub record IsReadBehind (head : List ℕ) (before now : Option (List ℕ)) (called calls : ℕ) (found : Tail) : Type 0 where
  pub within : found.end ≤ length head
  pub plain : IsPlainText (take found.end head) found.count (contents found.trace)
  pub more : List ℕ
  pub taken : Consumes before now more
  pub whole : head ++ more ≡ restored head found
  pub short : length (restored head found) ≤ most_bytes
  pub end : found.is_ended ≡ true → IsAtEnd now
  pub called_most : IsCalledAtMost (most_reads - length head) called calls
  pub called_few : found.is_ended ≡ false → IsCalledAtMost (length (restored head found) - length head) called calls
