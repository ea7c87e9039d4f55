use Rattle.verdict_lines.specs.VerdictText.{line_of_reply}
use Rattle.command_streams.specs.Watched.{held, has_failed}
use Rattle.command_streams.specs.Tellings.{telling}
use Rattle.command_streams.proofs.Buffering.{tells_added}
use Rattle.command_streams.proofs.line_buffer.LineBuffer.tell_verdict.Goals as goal

pub returns : goal.returns
returns g c =
    tells_added (telling (g.W.Write.contents (held c.args.output.now)) (has_failed c.args.output.now) c.args.self.now.text)
    (telling (g.W.Write.contents (held c.make_room.new.output)) (has_failed c.make_room.new.output) c.make_room.new.self.text) _ (line_of_reply c.args.reply.now)
    c.make_room.ensures.told c.add_verdict.ensures
