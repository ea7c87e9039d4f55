use Rattle.std.proofs.Common.{◌≡◌, ◌+◌, ◌≤◌, length}
use Rattle.text_words.specs.Text.{lines}
use Rattle.fault_lists.specs.Doubts.{count_of}
use Rattle.fault_lists.proofs.doubt.count_of.Given as goal

-- the lines so far and those of the rest are all lines
abbrev pub invariant-loop-rest : goal.invariant-loop-rest
invariant-loop-rest l =
    (l.count + count_of l.sort (lines l.rest) ≡ count_of l.sort (lines l.text)) × (l.count + length l.rest ≤ length l.text)

abbrev pub decreases-loop-rest : goal.decreases-loop-rest
decreases-loop-rest l = length l.rest
