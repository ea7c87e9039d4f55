use Rattle.shadow_history.proofs.SameKinds.{place_law}
use Rattle.shadow_history.proofs.laws.place_law.Goals as goal

pub returns : goal.returns
returns c = place_law
