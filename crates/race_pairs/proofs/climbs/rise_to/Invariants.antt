use Rattle.std.proofs.Common.{◌≤◌, length, get_or}
use Rattle.model_strands.specs.Addresses.{address}
use Rattle.model_histories.specs.Entries.{Entries, control_part}
use Rattle.race_pairs.specs.Climbs.{AreRisen}
use Rattle.race_pairs.specs.Jumps.{IsUp}
use Rattle.race_pairs.proofs.Raised.{no_jump}
use Rattle.race_pairs.proofs.climbs.rise_to.Given as goal

abbrev pub invariant-rise : goal.invariant-rise
invariant-rise l = (entries : Entries) → AreRisen l.opened l.strands l.jumps entries l.strand l.depth →
    IsUp entries l.here l.strand × (l.depth ≤ length (address (control_part entries) l.here))

abbrev pub decreases-rise : goal.decreases-rise
decreases-rise l = (get_or l.jumps l.here no_jump).depth
