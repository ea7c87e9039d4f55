use Rattle.std.proofs.Common.{Err, Ok}
use Rattle.std.proofs.lemmas.Result.{err_from_is_err_and}
use Rattle.trace_text.specs.Traces.{contents as trace_contents}
use Rattle.program_text.specs.Programs.{contents}
use Rattle.command_streams.specs.Watched.{held}
use Rattle.command_streams.specs.Streams.{StopsTrace, most_reads}
use Rattle.command_streams.specs.Readings.{reading}
use Rattle.command_streams.specs.declared.fault.CliFault.TheVariants.{Read}
use Rattle.command_streams.proofs.Bytes.{uncalled}
use Rattle.tool_commands.specs.Programs.{StopsProgram}
use Rattle.tool_commands.specs.Replays.{ReplaysContents, StopsReplay, IsReplayed, HasReplayCause}
use Rattle.tool_commands.proofs.Devices.{not_failed, failed_first, failed_second, read_stopped}
use Rattle.tool_commands.proofs.Ends.{written, stopped, left_read}
use Rattle.tool_commands.proofs.ReadPrograms.{no_program_to_replay}
use Rattle.tool_commands.proofs.ReplayCauses.{both_read, no_trace, replay_stops, replay_cut}
use Rattle.tool_commands.proofs.replay.replay_text.Goals as goal

pub returns-in_err-program-clause-fault : goal.returns-in_err-program-clause-fault
returns-in_err-program-clause-fault g c =
    let gone = err_from_is_err_and c.from_residual.result c.from_residual.ensures.1 in
    rw (gone.1, gone.2) (no_program_to_replay _ _ _ _ c.in_err-program.field-0.0 c.in_err-program.ensures.fault)

pub returns-in_err-program-clause-trace_reads : goal.returns-in_err-program-clause-trace_reads
returns-in_err-program-clause-trace_reads g c = uncalled most_reads c.args.trace.now.calls

pub returns-in_err-program-clause-devices : goal.returns-in_err-program-clause-devices
returns-in_err-program-clause-devices g c =
    let gone = err_from_is_err_and c.from_residual.result c.from_residual.ensures.1 in
    rw (gone.1, gone.2) (read_stopped c.in_err-program.field-0.0 _ _
    (StopsProgram (reading (g.P.Read.remaining (held c.args.program.now)) (g.P.Read.remaining (held c.read_program.new.reader))))
    (failed_first (Err c.in_err-program.field-0.0) _ _ c.requires.trace c.in_err-program.ensures.failed) c.in_err-program.ensures.fault (λ stops. stops) c.requires.writer)

pub returns-in_err-trace-clause-fault : goal.returns-in_err-trace-clause-fault
returns-in_err-trace-clause-fault g c =
    let gone = err_from_is_err_and c.from_residual-in_err-trace.result c.from_residual-in_err-trace.ensures.1 in
    rw (gone.1, gone.2) (no_trace _ _ _ _ c.in_err-trace.field-0.0 (contents c.in_ok-program.program, c.in_ok-program.ensures.ok) c.in_err-trace.ensures.fault)

pub returns-in_err-trace-clause-devices : goal.returns-in_err-trace-clause-devices
returns-in_err-trace-clause-devices g c =
    let gone = err_from_is_err_and c.from_residual-in_err-trace.result c.from_residual-in_err-trace.ensures.1 in
    let well = not_failed c.in_ok-program.program Read _ c.in_ok-program.ensures.failed in
    rw (gone.1, gone.2) (read_stopped c.in_err-trace.field-0.0 _ _
    (StopsTrace (g.T.Read.remaining (held c.args.trace.now)) (g.T.Read.remaining (held c.read_trace.new.input)))
    (failed_second (Err c.in_err-trace.field-0.0) _ _ well c.in_err-trace.ensures.failed) c.in_err-trace.ensures.fault (λ stops. stops) c.requires.writer)

pub returns-clause-answered : goal.returns-clause-answered
returns-clause-answered g c =
    let program = contents c.in_ok-program.program in
    let trace = trace_contents c.in_ok-trace.trace in
    written c.replay_trace.result (g.W.Write.contents (held c.args.output.now)) (g.W.Write.contents (held c.write_told.new.output)) c.args.output.now c.write_told.new.output c.write_told.result c.write_told.ensures
    (ReplaysContents program trace) (IsReplayed (reading (g.P.Read.remaining (held c.args.program.now)) (g.P.Read.remaining (held c.read_program.new.reader)))
    (reading (g.T.Read.remaining (held c.args.trace.now)) (g.T.Read.remaining (held c.read_trace.new.input))) (g.W.Write.contents (held c.args.output.now)) (g.W.Write.contents (held c.write_told.new.output))) c.replay_trace.ensures.ok
    (λ line status replays wrote. record {
      contents = program;
      trace_contents = trace;
      line = line;
      read = both_read _ _ _ _ c.in_ok-program.ensures.ok c.in_ok-trace.ensures.ok;
      replays = replays;
      written = wrote;
    })

pub returns-clause-fault : goal.returns-clause-fault
returns-clause-fault g c =
    let program = contents c.in_ok-program.program in
    let trace = trace_contents c.in_ok-trace.trace in
    let read = both_read _ _ program trace c.in_ok-program.ensures.ok c.in_ok-trace.ensures.ok in
    stopped c.replay_trace.result (g.W.Write.contents (held c.args.output.now)) (g.W.Write.contents (held c.write_told.new.output)) c.args.output.now c.write_told.new.output c.write_told.result c.write_told.ensures
    (ReplaysContents program trace) (StopsReplay program trace) (HasReplayCause (reading (g.P.Read.remaining (held c.args.program.now)) (g.P.Read.remaining (held c.read_program.new.reader)))
    (reading (g.T.Read.remaining (held c.args.trace.now)) (g.T.Read.remaining (held c.read_trace.new.input))) (g.W.Write.contents (held c.args.output.now)) (g.W.Write.contents (held c.write_told.new.output))) c.replay_trace.ensures.ok c.replay_trace.ensures.fault
    (λ fault stops. replay_stops _ _ _ _ program trace fault read stops)
    (λ line status fault replays stops. replay_cut _ _ _ _ program trace line status fault read replays stops)

pub returns-clause-devices : goal.returns-clause-devices
returns-clause-devices g c =
    let trace = c.in_ok-trace.trace in
    let well = not_failed c.in_ok-program.program Read _ c.in_ok-program.ensures.failed in
    left_read c.replay_trace.result (g.W.Write.contents (held c.args.output.now)) (g.W.Write.contents (held c.write_told.new.output)) c.args.output.now c.write_told.new.output c.write_told.result c.write_told.ensures
    _ trace (failed_second (Ok trace) _ _ well c.in_ok-trace.ensures.failed) (StopsReplay (contents c.in_ok-program.program) (trace_contents trace))
    c.replay_trace.ensures.fault (λ stops. stops) (λ stops. stops) c.requires.writer
