use Rattle.std.proofs.Common.{[], ◌++◌, refl, arith}
use Rattle.std.proofs.lemmas.Grind.{common_steps}
use Rattle.command_streams.specs.Watched.{held, has_failed}
use Rattle.command_streams.specs.Tellings.{telling}
use Rattle.command_streams.proofs.Buffering.{tells_none, tells_next}
use Rattle.tool_commands.proofs.elide.tell_cells.Goals as goal

pub loop-index-init : goal.loop-index-init
loop-index-init g c = ([], tells_none (telling (g.W.Write.contents (held c.args.output.now)) (has_failed c.args.output.now) c.args.lines.now.text), refl)

pub loop-index-preserved : goal.loop-index-preserved
loop-index-preserved g c =
    let so_far = c.loop-index.invariant in (
      so_far.0 ++ _,
      tells_next (telling (g.W.Write.contents (held c.args.output.now)) (has_failed c.args.output.now) c.args.lines.now.text)
          (telling (g.W.Write.contents (held c.loop-index.output)) (has_failed c.loop-index.output) c.loop-index.lines.text)
          (telling (g.W.Write.contents (held c.tell_cell.new.output)) (has_failed c.tell_cell.new.output) c.tell_cell.new.self.text)
          so_far.0 _ so_far.1 c.tell_cell.ensures,
      grind (arith, common_steps, so_far.2),
    )
