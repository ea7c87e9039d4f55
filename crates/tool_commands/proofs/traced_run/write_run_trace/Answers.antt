use Rattle.std.proofs.lemmas.Result.{err_from_is_err_and}
use Rattle.program_text.specs.Programs.{contents}
use Rattle.command_streams.specs.Watched.{held}
use Rattle.command_streams.specs.Readings.{reading}
use Rattle.tool_commands.specs.Programs.{StopsProgram}
use Rattle.tool_commands.specs.Runs.{IsRunFault}
use Rattle.tool_commands.specs.Traced.{TellsTrace, IsTraceWritten, HasTraceCause}
use Rattle.tool_commands.proofs.TracedCauses.{trace_stops, trace_cut, trace_written}
use Rattle.tool_commands.proofs.Devices.{read_stopped}
use Rattle.tool_commands.proofs.Ends.{written, stopped, left_read}
use Rattle.tool_commands.proofs.ReadPrograms.{no_program_to_trace}
use Rattle.tool_commands.proofs.traced_run.write_run_trace.Goals as goal

pub returns-in_err-program-clause-fault : goal.returns-in_err-program-clause-fault
returns-in_err-program-clause-fault g c =
    let gone = err_from_is_err_and c.from_residual.result c.from_residual.ensures.1 in
    rw (gone.1, gone.2) (no_program_to_trace (reading (g.P.Read.remaining (held c.args.program.now)) (g.P.Read.remaining (held c.read_program.new.reader))) _ _ c.args.limit c.in_err-program.field-0.0 c.in_err-program.ensures.fault)

pub returns-in_err-program-clause-devices : goal.returns-in_err-program-clause-devices
returns-in_err-program-clause-devices g c =
    let gone = err_from_is_err_and c.from_residual.result c.from_residual.ensures.1 in
    rw (gone.1, gone.2) (read_stopped c.in_err-program.field-0.0 _ _
    (StopsProgram (reading (g.P.Read.remaining (held c.args.program.now)) (g.P.Read.remaining (held c.read_program.new.reader))))
    c.in_err-program.ensures.failed c.in_err-program.ensures.fault (λ stops. stops) c.requires.writer)

pub returns-clause-answered : goal.returns-clause-answered
returns-clause-answered g c =
    let program = contents c.in_ok-program.program in
    written c.run_and_trace.result (g.W.Write.contents (held c.args.output.now)) (g.W.Write.contents (held c.write_told.new.output)) c.args.output.now c.write_told.new.output c.write_told.result c.write_told.ensures
    (TellsTrace program c.args.limit) (IsTraceWritten (reading (g.P.Read.remaining (held c.args.program.now)) (g.P.Read.remaining (held c.read_program.new.reader)))
    (g.W.Write.contents (held c.args.output.now)) (g.W.Write.contents (held c.write_told.new.output)) c.args.limit) c.run_and_trace.ensures.ok
    (λ trace status tells wrote. trace_written _ _ _ c.args.limit program trace status c.in_ok-program.ensures.ok tells wrote)

pub returns-clause-fault : goal.returns-clause-fault
returns-clause-fault g c =
    let program = contents c.in_ok-program.program in
    stopped c.run_and_trace.result (g.W.Write.contents (held c.args.output.now)) (g.W.Write.contents (held c.write_told.new.output)) c.args.output.now c.write_told.new.output c.write_told.result c.write_told.ensures
    (TellsTrace program c.args.limit) (IsRunFault program c.args.limit) (HasTraceCause (reading (g.P.Read.remaining (held c.args.program.now)) (g.P.Read.remaining (held c.read_program.new.reader)))
    (g.W.Write.contents (held c.args.output.now)) (g.W.Write.contents (held c.write_told.new.output)) c.args.limit) c.run_and_trace.ensures.ok c.run_and_trace.ensures.fault
    (λ fault stops. trace_stops _ _ _ c.args.limit program fault c.in_ok-program.ensures.ok stops)
    (λ trace status fault tells stops. trace_cut _ _ _ c.args.limit program trace status fault c.in_ok-program.ensures.ok tells stops)

pub returns-clause-devices : goal.returns-clause-devices
returns-clause-devices g c =
    left_read c.run_and_trace.result (g.W.Write.contents (held c.args.output.now)) (g.W.Write.contents (held c.write_told.new.output)) c.args.output.now c.write_told.new.output c.write_told.result c.write_told.ensures
    _ c.in_ok-program.program c.in_ok-program.ensures.failed (IsRunFault (contents c.in_ok-program.program) c.args.limit) c.run_and_trace.ensures.fault
    (λ stops. stops) (λ stops. stops) c.requires.writer
