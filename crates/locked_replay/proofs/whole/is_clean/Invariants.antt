use Rattle.std.specs.Prelude.{take}
use Rattle.model_histories.specs.Extensions.{IsClean}
use Rattle.locked_replay.proofs.whole.is_clean.Given as goal

abbrev pub invariant-loop-at : goal.invariant-loop-at
invariant-loop-at g l = IsClean (take l.at l.entries.items)
