use Rattle.std.proofs.Common.{[], ◌++◌, refl, arith}
use Rattle.std.proofs.lemmas.Grind.{common_steps}
use Rattle.text_buffers.proofs.Builders.{none_adds, two_adds}
use Rattle.tool_commands.proofs.elide.push_memory.Goals as goal

pub loop-mem-init : goal.loop-mem-init
loop-mem-init c = ([], none_adds c.args.text.now, refl)

pub loop-mem-preserved : goal.loop-mem-preserved
loop-mem-preserved c =
    let so_far = c.loop-mem.invariant in (
      so_far.0 ++ _,
      two_adds _ _ _ _ _ so_far.1 c.push_cells.ensures,
      grind (arith, common_steps, so_far.2),
    )
