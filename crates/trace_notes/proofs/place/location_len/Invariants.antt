use Rattle.std.proofs.Common.{◌≡◌, drop}
use Rattle.trace_notes.specs.declared.place.Seen.TheVariants.{Nothing}
use Rattle.trace_notes.specs.Places.{location_len}
use Rattle.trace_notes.proofs.Scans.{shifted}
use Rattle.trace_notes.proofs.place.location_len.Given as goal

abbrev pub invariant-loop-at : goal.invariant-loop-at
invariant-loop-at l = location_len Nothing l.place ≡ shifted l.at (location_len l.seen (drop l.at l.place))
