use Rattle.std.specs.Prelude.{take}
use Rattle.std.specs.List.{AllZip}
use Rattle.tool_commands.specs.Declarations.{IsSameReducer}
use Rattle.tool_commands.proofs.declarations.are_same_reducers.Given as goal

abbrev pub invariant-loop-at : goal.invariant-loop-at
invariant-loop-at l = AllZip IsSameReducer (take l.at l.one) (take l.at l.other)
