use Rattle.std.proofs.Common.{length}
use Rattle.trace_notes.specs.declared.notes.Notes.{Notes}
use Rattle.text_words.specs.Text.{lines}
use Rattle.trace_notes.specs.Notes.{Adds}
use Rattle.trace_notes.proofs.notes.Notes.add_lines.Given as goal

-- what adds the lines that are left adds them all
abbrev pub invariant-loop-rest : goal.invariant-loop-rest
invariant-loop-rest l = (last : Notes) → Adds (lines l.rest) l.self last → Adds (lines l.text) l.initial.self last

abbrev pub decreases-loop-rest : goal.decreases-loop-rest
decreases-loop-rest l = length l.rest
