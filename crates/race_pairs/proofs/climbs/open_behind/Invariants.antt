use Rattle.std.proofs.Common.{◌≡◌}
use Rattle.model_histories.specs.Entries.{Entries}
use Rattle.race_pairs.specs.Makers.{maker}
use Rattle.race_pairs.specs.Climbs.{IsOnWay}
use Rattle.race_pairs.specs.Lineages.{AreMade}
use Rattle.race_pairs.proofs.Outstanding.{OnWay}
use Rattle.race_pairs.proofs.climbs.open_behind.Given as goal

abbrev pub invariant-climb : goal.invariant-climb
invariant-climb l = (entries : Entries) → AreMade l.opened l.strands entries → IsOnWay entries l.earlier l.strand →
    OnWay entries l.earlier l.strand l.here × (l.made ≡ maker entries l.here) × (l.start ≡ maker entries l.earlier)

abbrev pub decreases-climb : goal.decreases-climb
decreases-climb l = l.made
