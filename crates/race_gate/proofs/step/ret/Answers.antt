use Rattle.std.proofs.Common.{Err, ap, inl, inr}
use Rattle.race_gate.proofs.step.ret.Goals as goal

pub unreachable-requires : goal.unreachable-requires
unreachable-requires g c =
    let (history, follows) = c.requires.follows in
    elim c.in-Err.ensures.causes [
      | inl e ↦ (c.in-Err.ensures.not_running history follows).0 (ap Err e) (c.requires.runs history follows)
      | inr e ↦ ((c.in-Err.ensures.unsynced history follows).0 (ap Err e)).1 (c.requires.synced history follows)
    ]
