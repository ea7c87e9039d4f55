use Rattle.std.proofs.Common.{take}
use Rattle.program_warnings.specs.Reach.{IsBodyClosed}
use Rattle.program_warnings.proofs.reach.next_in.Given as goal

-- no statement so far spawns or calls a function without a mark
abbrev pub invariant-loop-statement : goal.invariant-loop-statement
invariant-loop-statement l = IsBodyClosed (take l.statement-index l.body) l.marks
