use Rattle.std.proofs.Common.{◌≡◌, ℕ, ◌+◌, ◌≤◌, length}
use Rattle.text_words.specs.declared.fault.Cause.{Cause}
use Rattle.text_words.specs.Limits.{most_lines}
use Rattle.text_words.specs.Values.{Contents}
use Rattle.text_words.specs.Text.{lines}
use Rattle.trace_text.specs.Grammar.{LinesMean}
use Rattle.trace_text.specs.Faults.{LinesFault}
use Rattle.trace_text.specs.Drafts.{so_far}
use Rattle.trace_text.proofs.trace.Draft.take_body.Given as goal

-- What the lines that are left mean, all mean; and their first fault is that of all.
abbrev pub invariant-loop-rest : goal.invariant-loop-rest
invariant-loop-rest g l = record {
  few : l.at ≤ most_lines;
  count : l.at + length (lines l.rest) ≡ 1 + length (lines l.text);
  means : (contents : Contents) → LinesMean (l.at + 1) (so_far l.self.names l.self.lines) (lines l.rest) contents
      → LinesMean 2 (so_far l.initial.self.names l.initial.self.lines) (lines l.text) contents;
  faults : (bad : ℕ) (cause : Cause) → LinesFault (l.at + 1) (so_far l.self.names l.self.lines) (lines l.rest) bad cause
      → LinesFault 2 (so_far l.initial.self.names l.initial.self.lines) (lines l.text) bad cause;
}

abbrev pub decreases-loop-rest : goal.decreases-loop-rest
decreases-loop-rest g l = length l.rest
