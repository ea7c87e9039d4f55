use Rattle.std.proofs.Common.{rules}
use Rattle.tool_commands.specs.Declarations.{IsSameMem}
use Rattle.tool_commands.proofs.Pairs.{pairs_more}
use Rattle.tool_commands.proofs.declarations.are_same_mems.Goals as goal

pub loop-at-preserved : goal.loop-at-preserved
loop-at-preserved c =
    pairs_more IsSameMem c.args.one.now c.args.other.now c.loop-at.at c.index-one-at.result c.index-other-at.result (search rules) (search rules) (search rules) (search rules)
    c.loop-at.invariant (c.is_same_mem.ensures.0 (search rules))
