-- Texts that are read in pieces.
use Rattle.std.specs.Prelude.{◌≡◌, ◌≢◌, ℕ, ◌+◌, ◌≤◌, List, [], ◌++◌, length}
use Rattle.text_words.specs.Text.{lines}
use Rattle.text_words.specs.Limits.{most_lines}
use Rattle.trace_text.specs.declared.pieces.BegunTrace.{BegunTrace}
use Rattle.text_words.specs.Values.{Contents}
use Rattle.trace_text.specs.Grammar.{LinesMean, TextMeans}
use Rattle.trace_text.specs.Plain.{IsSettled}
use Rattle.trace_text.specs.Drafts.{so_far}
use Rattle.trace_text.specs.Printing.{requests_text}
use Rattle.text_words.specs.declared.value.TraceLine.{TraceLine}

-- What stands behind them begins a line of its own.
abbrev pub AreWholeLines : List ℕ → Type 0
AreWholeLines text = (rest : List ℕ) → lines (text ++ rest) ≡ lines text ++ lines rest

-- The text begins with whole lines, which make `after` of `before`: they are requests, where the names are settled their plain lines. The
-- rest stands behind them, `at` and `last` are the numbers of the line before and of the last.
pub record ReadsPlain (at : ℕ) (before : Contents) (text : List ℕ) (last : ℕ) (rest : List ℕ) (after : Contents) : Type 0 where
  pub front : List ℕ
  pub split : text ≡ front ++ rest
  pub whole : AreWholeLines front
  pub means : LinesMean (at + 1) before (lines front) after
  pub count : last ≡ at + length (lines front)
  pub few : last ≤ most_lines
  pub requests : List TraceLine
  pub added : after ≡ so_far before.known (before.lines ++ requests)
  pub exact : IsSettled before.known → front ≡ requests_text before.known requests

-- These bytes were read: whole lines, which mean this, and a request is among them.
pub record IsBegun {A : Type 0} (done : List ℕ) (begun : BegunTrace A) : Type 0 where
  pub whole : AreWholeLines done
  pub means : TextMeans done (so_far begun.draft.names begun.draft.lines)
  pub count : begun.at ≡ length (lines done)
  pub few : begun.at ≤ most_lines
  pub some : begun.draft.lines ≢ []

-- These whole lines were read behind: they are the plain lines of the requests that there are more then.
pub record TakesPlain {A : Type 0} (old : BegunTrace A) (front : List ℕ) (new : BegunTrace A) : Type 0 where
  pub begun : (done : List ℕ) → IsBegun done old → IsBegun (done ++ front) new
  pub known : new.draft.names ≡ old.draft.names
  pub requests : List TraceLine
  pub added : new.draft.lines ≡ old.draft.lines ++ requests
  pub plain : front ≡ requests_text old.draft.names requests

-- The text begins with such lines, and the rest stands behind them.
pub record TakesFront {A : Type 0} (old : BegunTrace A) (text rest : List ℕ) (new : BegunTrace A) : Type 0 where
  pub front : List ℕ
  pub split : text ≡ front ++ rest
  pub takes : TakesPlain old front new
