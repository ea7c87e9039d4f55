use Rattle.std.proofs.lemmas.Result.{err_from_is_err_and}
use Rattle.command_streams.specs.Watched.{held}
use Rattle.command_streams.specs.Readings.{reading}
use Rattle.command_streams.specs.Streams.{StopsReading}
use Rattle.tool_commands.specs.Drawings.{DrawsText, StopsText, IsDrawn, HasDrawingCause}
use Rattle.tool_commands.proofs.Devices.{read_stopped}
use Rattle.tool_commands.proofs.DrawingCauses.{drawing_stops, drawing_unread, drawing_unwritten, drawn_whole, drawing_cut}
use Rattle.tool_commands.proofs.Ends.{written, stopped, left_read}
use Rattle.tool_commands.proofs.draw.draw_text.Goals as goal

pub returns-in_err-bytes-clause-devices : goal.returns-in_err-bytes-clause-devices
returns-in_err-bytes-clause-devices g c =
    let gone = err_from_is_err_and c.from_residual.result c.from_residual.ensures.1 in
    rw (gone.1, gone.2) (read_stopped c.in_err-bytes.field-0.0 _ _
    (StopsReading (g.R.Read.remaining (held c.args.input.now)) (g.R.Read.remaining (held c.read_text.new.input)))
    c.in_err-bytes.ensures.failed c.in_err-bytes.ensures.fault (λ stops. stops) c.requires.writer)

pub returns-clause-answered : goal.returns-clause-answered
returns-clause-answered g c =
    let bytes = c.in_ok-bytes.bytes.items in
    written c.draw_trace.result (g.W.Write.contents (held c.args.output.now)) (g.W.Write.contents (held c.write_told.new.output)) c.args.output.now c.write_told.new.output c.write_told.result c.write_told.ensures
    (DrawsText c.args.form bytes) (IsDrawn c.args.form (reading (g.R.Read.remaining (held c.args.input.now)) (g.R.Read.remaining (held c.read_text.new.input)))
    (g.W.Write.contents (held c.args.output.now)) (g.W.Write.contents (held c.write_told.new.output))) c.draw_trace.ensures.ok
    (λ text status draws wrote. drawn_whole c.args.form _ _ _ bytes text status c.in_ok-bytes.ensures.ok draws wrote)

pub returns-clause-fault : goal.returns-clause-fault
returns-clause-fault g c =
    let bytes = c.in_ok-bytes.bytes.items in
    stopped c.draw_trace.result (g.W.Write.contents (held c.args.output.now)) (g.W.Write.contents (held c.write_told.new.output)) c.args.output.now c.write_told.new.output c.write_told.result c.write_told.ensures
    (DrawsText c.args.form bytes) (StopsText bytes) (HasDrawingCause c.args.form (reading (g.R.Read.remaining (held c.args.input.now)) (g.R.Read.remaining (held c.read_text.new.input)))
    (g.W.Write.contents (held c.args.output.now)) (g.W.Write.contents (held c.write_told.new.output))) c.draw_trace.ensures.ok c.draw_trace.ensures.fault
    (λ fault stops. drawing_stops c.args.form _ _ _ bytes fault c.in_ok-bytes.ensures.ok stops)
    (λ text status fault draws stops. drawing_cut c.args.form _ _ _ bytes text status fault c.in_ok-bytes.ensures.ok draws stops)

pub returns-clause-devices : goal.returns-clause-devices
returns-clause-devices g c =
    let bytes = c.in_ok-bytes.bytes.items in
    left_read c.draw_trace.result (g.W.Write.contents (held c.args.output.now)) (g.W.Write.contents (held c.write_told.new.output)) c.args.output.now c.write_told.new.output c.write_told.result c.write_told.ensures
    _ c.in_ok-bytes.bytes c.in_ok-bytes.ensures.failed (StopsText bytes) c.draw_trace.ensures.fault (drawing_unread bytes) (drawing_unwritten bytes) c.requires.writer
