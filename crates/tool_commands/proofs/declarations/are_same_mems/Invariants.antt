use Rattle.std.specs.Prelude.{take}
use Rattle.std.specs.List.{AllZip}
use Rattle.tool_commands.specs.Declarations.{IsSameMem}
use Rattle.tool_commands.proofs.declarations.are_same_mems.Given as goal

abbrev pub invariant-loop-at : goal.invariant-loop-at
invariant-loop-at l = AllZip IsSameMem (take l.at l.one) (take l.at l.other)
