use Rattle.std.proofs.Common.{[], ◌++◌, refl, arith, codes}
use Rattle.std.proofs.lemmas.Grind.{common_steps}
use Rattle.text_buffers.proofs.Builders.{none_adds, number_adds, two_adds}
use Rattle.tool_commands.proofs.elide.push_cells.Goals as goal

pub loop-index-init : goal.loop-index-init
loop-index-init c = ([], none_adds c.args.text.now, refl)

pub loop-index-preserved : goal.loop-index-preserved
loop-index-preserved c =
    let so_far = c.loop-index.invariant in (
      so_far.0 ++ _,
      two_adds _ _ _ _ _ so_far.1
          (two_adds _ _ _ _ _ (number_adds _ _ _ _ (codes " ") _ c.push_name.ensures c.push_number.ensures) c.push_words.ensures),
      grind (arith, common_steps, so_far.2),
    )
