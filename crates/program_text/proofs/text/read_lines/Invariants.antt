use Rattle.std.proofs.Common.{◌≤◌, length}
use Rattle.text_words.specs.Text.{lines}
use Rattle.program_text.specs.Faults.{DecidesLines}
use Rattle.program_text.proofs.text.read_lines.Given as goal

-- What the lines that are left mean, the whole means; and their first fault is that of the whole.
abbrev pub invariant-loop-rest : goal.invariant-loop-rest
invariant-loop-rest g l = record {
  few : l.at ≤ 4000001;
  decides : DecidesLines l.names l.fn.draft (lines l.text) l.at l.draft (lines l.rest);
}

abbrev pub decreases-loop-rest : goal.decreases-loop-rest
decreases-loop-rest g l = length l.rest
