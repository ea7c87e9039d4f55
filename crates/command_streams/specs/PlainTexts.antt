-- Texts of traces of which the head is kept: behind it stand plain lines of requests.
use Rattle.std.specs.Prelude.{ℕ, ◌≡◌, ◌+◌, Option, List, ◌++◌, drop, length}
use Rattle.std.specs.Io.KnownBytes.{Consumes}
use Rattle.text_words.specs.Values.{Contents}
use Rattle.trace_text.specs.declared.pieces.BegunTrace.{BegunTrace}
use Rattle.trace_text.specs.Grammar.{TextMeans}
use Rattle.trace_text.specs.Pieces.{AreWholeLines, TakesPlain}
use Rattle.trace_text.specs.Printing.{requests_text}
use Rattle.command_streams.specs.declared.fault.CliFault.{CliFault}
use Rattle.command_streams.specs.Streams.{IsRead, StopsReading}

-- The head, and behind it the plain lines of the requests behind the first so many.
abbrev pub rejoined : (head : List ℕ) → (count : ℕ) → Contents → List ℕ
rejoined head count contents = head ++ requests_text contents.known (drop count contents.lines)

-- The head is whole lines, and with those behind it the text means the trace.
pub record IsPlainText (head : List ℕ) (count : ℕ) (contents : Contents) : Type 0 where
  pub whole : AreWholeLines head
  pub means : TextMeans (rejoined head count contents) contents

-- ---- what is read behind the head

-- How far a trace is read. It is begun with the first `done` bytes, those behind them wait, and the rest is left to read, where that is known.
pub record Progress (A : Type 0) : Type 0 where
  pub begun : BegunTrace A
  pub done : ℕ
  pub waiting : List ℕ
  pub left : Option (List ℕ)

abbrev pub progress : {A : Type 0} → BegunTrace A → (done : ℕ) → (waiting : List ℕ) → (left : Option (List ℕ)) → Progress A
progress begun done waiting left = record { begun = begun; done = done; waiting = waiting; left = left }

-- More was read. What was taken behind the first bytes are plain lines of requests, and the rest of what was read waits.
pub record ReadsRequests {A : Type 0} (old new : Progress A) : Type 0 where
  pub front : List ℕ
  pub takes : TakesPlain old.begun front new.begun
  pub counted : new.done ≡ old.done + length front
  pub more : List ℕ
  pub taken : Consumes old.left new.left more
  pub whole : old.waiting ++ more ≡ front ++ new.waiting

-- ---- reading on

-- The text is all that was read, of which these bytes were read before.
abbrev pub IsReadFrom : (bytes : List ℕ) → (before now : Option (List ℕ)) → (text : List ℕ) → Type 0
IsReadFrom bytes before now text = (first : Option (List ℕ)) → Consumes first before bytes → IsRead first now text

-- Why reading stops behind these bytes.
abbrev pub StopsReadingFrom : (bytes : List ℕ) → (before now : Option (List ℕ)) → CliFault → Type 0
StopsReadingFrom bytes before now fault = (first : Option (List ℕ)) → Consumes first before bytes → StopsReading first now fault

-- The same behind so many bytes and those that waited.
abbrev pub StopsPlain : (done : ℕ) → (waited : List ℕ) → (before now : Option (List ℕ)) → CliFault → Type 0
StopsPlain done waited before now fault = (bytes : List ℕ) → length bytes ≡ done → StopsReadingFrom (bytes ++ waited) before now fault
