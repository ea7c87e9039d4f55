use Rattle.std.proofs.Common.{◌≡◌, true}
use Rattle.trace_notes.specs.Places.{begins_function}
use Rattle.trace_notes.proofs.Scans.{cut_behind_comma}
use Rattle.trace_notes.proofs.place.behind_location.Goals as goal

pub split_at-requires : goal.split_at-requires
split_at-requires c =
    let there : begins_function c.args.behind.now ≡ true = cc in
    cut_behind_comma c.args.behind.now c.utf8.behind there
