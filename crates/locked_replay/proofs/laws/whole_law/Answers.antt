use Rattle.locked_replay.proofs.Wholes.{whole_law}
use Rattle.locked_replay.proofs.laws.whole_law.Goals as goal

pub returns : goal.returns
returns c = whole_law
