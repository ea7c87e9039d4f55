use Rattle.std.proofs.Common.{length}
use Rattle.trace_text.specs.Drafts.{so_far}
use Rattle.trace_text.specs.Pieces.{ReadsPlain}
use Rattle.trace_text.proofs.trace.Draft.take_plain_lines.Given as goal

-- the lines before the rest are taken
abbrev pub invariant-loop-self : goal.invariant-loop-self
invariant-loop-self g l =
    ReadsPlain l.fn.at (so_far l.initial.self.names l.initial.self.lines) l.text l.last l.rest (so_far l.self.names l.self.lines)

abbrev pub decreases-loop-self : goal.decreases-loop-self
decreases-loop-self g l = length l.rest
