use Rattle.std.proofs.Common.{rules, ℕ, List, subst}
use Rattle.std.proofs.lemmas.Result.{err_from_is_err_and}
use Rattle.program_text.specs.Programs.{contents}
use Rattle.text_words.specs.declared.value.Mem.{Mem}
use Rattle.command_streams.specs.Watched.{held}
use Rattle.command_streams.specs.Readings.{reading}
use Rattle.command_streams.specs.Streams.{StopsWriting}
use Rattle.command_streams.proofs.Failing.{write_alone}
use Rattle.tool_commands.specs.Programs.{StopsProgram}
use Rattle.tool_commands.specs.Elided.{StopsElision}
use Rattle.tool_commands.proofs.Devices.{read_stopped, telling_stopped, writing_stopped, all_written}
use Rattle.command_streams.specs.ElisionText.{elision_text}
use Rattle.tool_commands.proofs.ElisionCauses.{stopping_cause, cutting_cause}
use Rattle.tool_commands.proofs.ShortNames.{short_names}
use Rattle.tool_commands.proofs.ReadPrograms.{no_program_to_elide}
use Rattle.tool_commands.proofs.elide.elide_text.Goals as goal

pub write_elision-requires-clause-short : goal.write_elision-requires-clause-short
write_elision-requires-clause-short g c = rw c.as_slice.ensures (short_names c.in_ok-program.ensures.ok.text (contents c.in_ok-program.program) c.in_ok-program.ensures.ok.means)

pub returns-in_err-elided-clause-fault : goal.returns-in_err-elided-clause-fault
returns-in_err-elided-clause-fault g c =
    let gone = err_from_is_err_and c.from_residual-in_err-elided.result c.from_residual-in_err-elided.ensures.1 in
    rw (gone.1, gone.2) (stopping_cause (g.R.Read.remaining (held c.args.program.now)) (g.R.Read.remaining (held c.read_program.new.reader))
    (g.W.Write.contents (held c.args.output.now)) (g.W.Write.contents (held c.args.output.now))
    c.args.limit c.in_ok-program.ensures.ok.text (contents c.in_ok-program.program)
    _ c.in_ok-program.ensures.ok.read c.in_ok-program.ensures.ok.means c.in_err-elided.ensures.fault)

pub returns-in_err-write_elision-clause-fault : goal.returns-in_err-write_elision-clause-fault
returns-in_err-write_elision-clause-fault g c =
    let gone = err_from_is_err_and c.from_residual-in_err-write_elision.result c.from_residual-in_err-write_elision.ensures.1 in
    let wrote = g.W.Write.contents (held c.args.output.now) in
    let writes = g.W.Write.contents (held c.write_elision.new.output) in
    let requests = c.in_ok-elided.elided.requests in
    let fault = c.in_err-write_elision.field-0.0 in
    rw (gone.1, gone.2) (cutting_cause (g.R.Read.remaining (held c.args.program.now)) (g.R.Read.remaining (held c.read_program.new.reader)) wrote writes
    c.args.limit c.in_ok-program.ensures.ok.text _ fault c.in_ok-program.ensures.ok.read
    (record { contents = contents c.in_ok-program.program; means = c.in_ok-program.ensures.ok.means; elided = c.in_ok-elided.ensures.ok })
    (subst (λ (values : List ℕ). StopsWriting wrote writes (elision_text c.in_ok-program.program.mems values requests) fault) c.as_slice-2.ensures.value
    (subst (λ (mems : List Mem). StopsWriting wrote writes (elision_text mems c.as_slice-2.result.now requests) fault) c.as_slice.ensures
    c.in_err-write_elision.ensures.fault)))

pub returns-in_err-lines-clause-devices : goal.returns-in_err-lines-clause-devices
returns-in_err-lines-clause-devices g c =
    record { delivered = search rules; read_failed = search rules; write_failed = search rules; unwritten = search rules }

pub returns-in_err-program-clause-fault : goal.returns-in_err-program-clause-fault
returns-in_err-program-clause-fault g c =
    let gone = err_from_is_err_and c.from_residual.result c.from_residual.ensures.1 in
    rw (gone.1, gone.2) (no_program_to_elide (reading (g.R.Read.remaining (held c.args.program.now)) (g.R.Read.remaining (held c.read_program.new.reader))) _ _ c.args.limit c.in_err-program.field-0.0 c.in_err-program.ensures.fault)

pub returns-in_err-program-clause-devices : goal.returns-in_err-program-clause-devices
returns-in_err-program-clause-devices g c =
    let gone = err_from_is_err_and c.from_residual.result c.from_residual.ensures.1 in
    rw (gone.1, gone.2) (read_stopped c.in_err-program.field-0.0 _ _
    (StopsProgram (reading (g.R.Read.remaining (held c.args.program.now)) (g.R.Read.remaining (held c.read_program.new.reader))))
    c.in_err-program.ensures.failed c.in_err-program.ensures.fault (λ stops. stops) c.requires.writer)

pub returns-in_err-elided-clause-devices : goal.returns-in_err-elided-clause-devices
returns-in_err-elided-clause-devices g c =
    let gone = err_from_is_err_and c.from_residual-in_err-elided.result c.from_residual-in_err-elided.ensures.1 in
    rw (gone.1, gone.2) (telling_stopped c.in_err-elided.field-0.0 _ _ c.in_ok-program.program (StopsElision (contents c.in_ok-program.program) c.args.limit)
    c.in_ok-program.ensures.failed c.in_err-elided.ensures.fault (λ stops. stops) (λ stops. stops) c.requires.writer)

pub returns-in_err-write_elision-clause-devices : goal.returns-in_err-write_elision-clause-devices
returns-in_err-write_elision-clause-devices g c =
    let gone = err_from_is_err_and c.from_residual-in_err-write_elision.result c.from_residual-in_err-write_elision.ensures.1 in
    rw (gone.1, gone.2) (writing_stopped c.in_err-write_elision.field-0.0 _ _ c.in_ok-program.program _ c.in_ok-program.ensures.failed
    (write_alone _ _ _ _ c.in_err-write_elision.ensures.fault) c.in_err-write_elision.ensures.failed)

pub returns-clause-devices : goal.returns-clause-devices
returns-clause-devices g c =
    all_written _ _ _ _ c.in_ok-program.program _ c.in_ok-program.ensures.failed c.in_ok-write_elision.ensures.delivered c.in_ok-write_elision.ensures.failed
