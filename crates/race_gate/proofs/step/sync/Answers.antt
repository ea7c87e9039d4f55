use Rattle.std.proofs.Common.{Err, ap}
use Rattle.race_gate.proofs.step.sync.Goals as goal

pub unreachable-requires : goal.unreachable-requires
unreachable-requires g c =
    let (history, follows) = c.requires.follows in
    (c.in-Err.ensures.not_running history follows).0 (ap Err c.in-Err.ensures.causes) (c.requires.runs history follows)
