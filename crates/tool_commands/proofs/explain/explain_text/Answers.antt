use Rattle.std.proofs.lemmas.Result.{err_from_is_err_and}
use Rattle.command_streams.specs.Watched.{held}
use Rattle.command_streams.specs.Streams.{StopsReading}
use Rattle.command_streams.specs.KeptTexts.{text_of}
use Rattle.tool_commands.specs.Explanations.{Explains, StopsTelling, IsExplained, HasExplanationCause}
use Rattle.command_streams.specs.Readings.{reading}
use Rattle.tool_commands.proofs.Devices.{read_stopped}
use Rattle.tool_commands.proofs.Ends.{written, stopped, left_read}
use Rattle.tool_commands.proofs.ExplanationCauses.{explanation_cut, no_text, untold_text, read_well, not_writing}
use Rattle.tool_commands.proofs.explain.explain_text.Goals as goal

pub returns-in_err-source-clause-fault : goal.returns-in_err-source-clause-fault
returns-in_err-source-clause-fault g c =
    let gone = err_from_is_err_and c.from_residual.result c.from_residual.ensures.1 in
    rw (gone.1, gone.2) (no_text _ _ _ _ c.args.limit c.in_err-source.field-0.0 c.in_err-source.ensures.fault)

pub returns-in_err-source-clause-devices : goal.returns-in_err-source-clause-devices
returns-in_err-source-clause-devices g c =
    let gone = err_from_is_err_and c.from_residual.result c.from_residual.ensures.1 in
    rw (gone.1, gone.2) (read_stopped c.in_err-source.field-0.0 _ _
    (StopsReading (g.P.Read.remaining (held c.args.program.now)) (g.P.Read.remaining (held c.read_kept.new.input)))
    c.in_err-source.ensures.failed c.in_err-source.ensures.fault (λ stops. stops) c.requires.writer)

pub returns-clause-answered : goal.returns-clause-answered
returns-clause-answered g c =
    let text = text_of c.in_ok-source.source in
    written c.tell_source.result (g.W.Write.contents (held c.args.output.now)) (g.W.Write.contents (held c.write_told.new.output)) c.args.output.now c.write_told.new.output c.write_told.result c.write_told.ensures
    (Explains c.args.manner.now text c.args.limit) (IsExplained c.args.manner.now (reading (g.P.Read.remaining (held c.args.program.now)) (g.P.Read.remaining (held c.read_kept.new.input)))
    (g.W.Write.contents (held c.args.output.now)) (g.W.Write.contents (held c.write_told.new.output)) c.args.limit) c.tell_source.ensures.ok
    (λ told status explains wrote. record { text = text; told = told; read = c.in_ok-source.ensures.ok; explains = explains; written = wrote })

pub returns-clause-fault : goal.returns-clause-fault
returns-clause-fault g c =
    let text = text_of c.in_ok-source.source in
    stopped c.tell_source.result (g.W.Write.contents (held c.args.output.now)) (g.W.Write.contents (held c.write_told.new.output)) c.args.output.now c.write_told.new.output c.write_told.result c.write_told.ensures
    (Explains c.args.manner.now text c.args.limit) (StopsTelling text c.args.limit) (HasExplanationCause c.args.manner.now (reading (g.P.Read.remaining (held c.args.program.now)) (g.P.Read.remaining (held c.read_kept.new.input)))
    (g.W.Write.contents (held c.args.output.now)) (g.W.Write.contents (held c.write_told.new.output)) c.args.limit) c.tell_source.ensures.ok c.tell_source.ensures.fault
    (λ fault stops. untold_text _ _ _ _ c.args.limit text fault c.in_ok-source.ensures.ok stops)
    (λ told status fault explains stops. explanation_cut _ _ _ _ c.args.limit text told status fault c.in_ok-source.ensures.ok explains stops)

pub returns-clause-devices : goal.returns-clause-devices
returns-clause-devices g c =
    let text = text_of c.in_ok-source.source in
    left_read c.tell_source.result (g.W.Write.contents (held c.args.output.now)) (g.W.Write.contents (held c.write_told.new.output)) c.args.output.now c.write_told.new.output c.write_told.result c.write_told.ensures
    _ c.in_ok-source.source c.in_ok-source.ensures.failed (StopsTelling text c.args.limit) c.tell_source.ensures.fault
    (read_well text c.args.limit) (not_writing text c.args.limit) c.requires.writer
