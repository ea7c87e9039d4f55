use Rattle.std.proofs.Common.{reverse}
use Rattle.race_gate.proofs.Races.{legal-part}
use Rattle.race_explanations.proofs.illegal.illegality_of_strand.Goals as goal

pub count_strands-requires : goal.count_strands-requires
count_strands-requires c = legal-part c.requires.0 (reverse c.args.entries.now) c.requires.1
