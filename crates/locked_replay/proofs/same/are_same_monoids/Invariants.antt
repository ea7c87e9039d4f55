use Rattle.std.specs.Prelude.{◌≡◌, take}
use Rattle.locked_replay.proofs.same.are_same_monoids.Given as goal

abbrev pub invariant-loop-at : goal.invariant-loop-at
invariant-loop-at l = take l.at l.one ≡ take l.at l.other
