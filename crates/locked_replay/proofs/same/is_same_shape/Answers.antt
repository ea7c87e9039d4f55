use Rattle.std.proofs.Common.{rules}
use Rattle.locked_replay.proofs.same.is_same_shape.Goals as goal

pub returns-then-one-other : goal.returns-then-one-other
returns-then-one-other g c = search rules
