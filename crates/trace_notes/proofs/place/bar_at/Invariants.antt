use Rattle.std.proofs.Common.{◌≡◌, drop}
use Rattle.trace_notes.specs.Places.{bar_at}
use Rattle.trace_notes.proofs.Scans.{shifted}
use Rattle.trace_notes.proofs.place.bar_at.Given as goal

abbrev pub invariant-loop-at : goal.invariant-loop-at
invariant-loop-at l = bar_at l.text ≡ shifted l.at (bar_at (drop l.at l.text))
