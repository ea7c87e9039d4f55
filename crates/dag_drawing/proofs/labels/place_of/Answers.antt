use Rattle.std.proofs.Common.{rules}
use Rattle.dag_drawing.specs.Labels.{place_of}
use Rattle.dag_drawing.proofs.labels.place_of.Goals as goal

pub returns : goal.returns
unfolding place_of
returns c = search rules
