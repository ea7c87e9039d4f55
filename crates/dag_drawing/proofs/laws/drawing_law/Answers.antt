use Rattle.dag_drawing.proofs.EdgesByKind.{edges_law}
use Rattle.dag_drawing.proofs.laws.drawing_law.Goals as goal

pub returns : goal.returns
returns c = edges_law
