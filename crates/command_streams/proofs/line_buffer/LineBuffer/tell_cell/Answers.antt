use Rattle.command_streams.specs.ElisionText.{cell_line}
use Rattle.command_streams.specs.Watched.{held, has_failed}
use Rattle.command_streams.specs.Tellings.{telling}
use Rattle.command_streams.proofs.Buffering.{tells_added}
use Rattle.command_streams.proofs.line_buffer.LineBuffer.tell_cell.Goals as goal

pub returns : goal.returns
returns g c =
    tells_added (telling (g.W.Write.contents (held c.args.output.now)) (has_failed c.args.output.now) c.args.self.now.text)
    (telling (g.W.Write.contents (held c.make_room.new.output)) (has_failed c.make_room.new.output) c.make_room.new.self.text) _ (cell_line c.args.mem.now c.args.index c.args.value)
    c.make_room.ensures.told c.add_cell.ensures
