use Rattle.trace_notes.proofs.Scans.{cut_behind_bar}
use Rattle.trace_notes.proofs.place.around_bar.Goals as goal

pub split_at-requires-in-Some : goal.split_at-requires-in-Some
split_at-requires-in-Some c =
    cut_behind_bar c.args.text.now c.in-Some.at c.utf8.text (rw c.as_bytes.ensures.value at c.in-Some.ensures.there.1)
