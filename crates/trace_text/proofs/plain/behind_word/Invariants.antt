use Rattle.std.proofs.Common.{◌≡◌, ◌≤◌, ◌-◌, length, take}
use Rattle.trace_text.proofs.plain.behind_word.Given as goal

-- What was compared is the same.
abbrev pub invariant-loop-length : goal.invariant-loop-length
invariant-loop-length l = (l.length ≤ length l.word) × (take l.length l.text ≡ take l.length l.word)

abbrev pub decreases-loop-length : goal.decreases-loop-length
decreases-loop-length l = length l.word - l.length
