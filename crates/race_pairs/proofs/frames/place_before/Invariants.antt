use Rattle.model_histories.specs.Entries.{Entries}
use Rattle.race_pairs.specs.Lineages.{AreKept}
use Rattle.race_pairs.proofs.Stood.{Reached}
use Rattle.race_pairs.proofs.frames.place_before.Given as goal

abbrev pub invariant-back : goal.invariant-back
invariant-back l = (entries : Entries) → AreKept l.opened l.turns l.strands entries → Reached l.opened l.turns entries (record { strand = l.strand; number = l.number; maker = l.it.maker }) l.at

abbrev pub decreases-back : goal.decreases-back
decreases-back l = l.at
