use Rattle.std.proofs.Common.{◌≡◌, length, get_or}
use Rattle.model_strands.specs.Addresses.{address}
use Rattle.model_histories.specs.Entries.{Entries, control_part}
use Rattle.race_pairs.specs.Climbs.{Climbs}
use Rattle.race_pairs.specs.Lineages.{AreWays}
use Rattle.race_pairs.proofs.Raised.{no_jump}
use Rattle.race_pairs.proofs.climbs.find_meeting.Given as goal

abbrev pub invariant-climb : goal.invariant-climb
invariant-climb l = (entries : Entries) → AreWays l.opened l.strands l.jumps entries →
    Climbs entries l.strand l.other l.one l.two × (length (address (control_part entries) l.one) ≡ length (address (control_part entries) l.two))

abbrev pub decreases-climb : goal.decreases-climb
decreases-climb l = (get_or l.jumps l.one no_jump).depth
