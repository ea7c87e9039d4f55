use Rattle.std.proofs.Common.{[], ◌++◌, refl, arith}
use Rattle.std.proofs.lemmas.Grind.{common_steps}
use Rattle.command_streams.specs.Watched.{held, has_failed}
use Rattle.command_streams.specs.Tellings.{telling}
use Rattle.command_streams.proofs.Buffering.{tells_none, tells_next}
use Rattle.tool_commands.proofs.elide.tell_memory.Goals as goal

pub loop-mem-init : goal.loop-mem-init
loop-mem-init g c = ([], tells_none (telling (g.W.Write.contents (held c.args.output.now)) (has_failed c.args.output.now) c.args.lines.now.text), refl)

pub loop-mem-preserved : goal.loop-mem-preserved
loop-mem-preserved g c =
    let so_far = c.loop-mem.invariant in (
      so_far.0 ++ _,
      tells_next (telling (g.W.Write.contents (held c.args.output.now)) (has_failed c.args.output.now) c.args.lines.now.text)
          (telling (g.W.Write.contents (held c.loop-mem.output)) (has_failed c.loop-mem.output) c.loop-mem.lines.text)
          (telling (g.W.Write.contents (held c.tell_cells.new.output)) (has_failed c.tell_cells.new.output) c.tell_cells.new.lines.text)
          so_far.0 _ so_far.1 c.tell_cells.ensures,
      grind (arith, common_steps, so_far.2),
    )
