use Rattle.std.proofs.Common.{◌≡◌, ◌&&◌, ◌∙◌, drop, false, arith}
use Rattle.trace_notes.specs.Places.{is_number, is_end}
use Rattle.trace_notes.proofs.Scans.{location_more}
use Rattle.trace_notes.proofs.place.location_len.Goals as goal

pub loop-at-preserved : goal.loop-at-preserved
loop-at-preserved c =
    let none : (is_number c.loop-at.seen && is_end (drop c.loop-at.at c.args.place.now)) ≡ false = cc in
    rw c.advance-seen.ensures (c.loop-at.invariant ∙ location_more c.loop-at.seen c.args.place.now c.loop-at.at (omega arith) none)
