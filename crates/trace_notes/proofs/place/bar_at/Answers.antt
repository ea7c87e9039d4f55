use Rattle.std.proofs.Common.{◌≡◌, ◌∙◌, drop, true, false, sym, arith}
use Rattle.trace_notes.specs.Places.{begins_code}
use Rattle.trace_notes.proofs.Scans.{bar_more, bar_here, bar_within}
use Rattle.trace_notes.proofs.place.bar_at.Goals as goal

pub loop-at-preserved : goal.loop-at-preserved
loop-at-preserved c =
    let none : begins_code (drop c.loop-at.at c.args.text.now) ≡ false = cc in
    c.loop-at.invariant ∙ bar_more c.args.text.now c.loop-at.at (omega arith) none

pub returns-then-begins_code : goal.returns-then-begins_code
returns-then-begins_code c =
    let here : begins_code (drop c.loop-at.at c.args.text.now) ≡ true = cc in record {
      value = sym (c.loop-at.invariant ∙ bar_here c.args.text.now c.loop-at.at here);
      there = (bar_within c.args.text.now c.loop-at.at here, here);
    }
