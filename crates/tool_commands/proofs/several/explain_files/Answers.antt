use Rattle.std.proofs.Common.{map}
use Rattle.std.specs.String.{string_bytes}
use Rattle.command_streams.specs.Watched.{held}
use Rattle.command_streams.specs.declared.fault.CliFault.TheVariants.{Read}
use Rattle.tool_commands.specs.Several.{style, TellsSeveral, HasSeveralCause}
use Rattle.tool_commands.proofs.Ends.{written, stopped, left, same_fault}
use Rattle.tool_commands.proofs.Taking.{all_untold, told_cut, few_told}
use Rattle.tool_commands.proofs.several.explain_files.Goals as goal

pub returns-clause-done : goal.returns-clause-done
returns-clause-done g c =
    let manner = style c.args.is_painted c.args.extent c.args.rendering in
    let files = (g.H.Host.sources (held c.args.host.now)).file in
    let names = map string_bytes c.args.files.now in
    written c.explain_texts.result (g.W.Write.contents (held c.args.output.now)) (g.W.Write.contents (held c.write_told.new.output)) c.args.output.now c.write_told.new.output c.write_told.result c.write_told.ensures
    (TellsSeveral manner files names) _ c.explain_texts.ensures.ok
    (λ told status tells wrote. record { told = told; tells = tells; written = wrote })

pub returns-clause-fault : goal.returns-clause-fault
returns-clause-fault g c =
    let manner = style c.args.is_painted c.args.extent c.args.rendering in
    let files = (g.H.Host.sources (held c.args.host.now)).file in
    let names = map string_bytes c.args.files.now in
    let wrote = g.W.Write.contents (held c.args.output.now) in
    let writes = g.W.Write.contents (held c.write_told.new.output) in
    stopped c.explain_texts.result (g.W.Write.contents (held c.args.output.now)) (g.W.Write.contents (held c.write_told.new.output)) c.args.output.now c.write_told.new.output c.write_told.result c.write_told.ensures
    (TellsSeveral manner files names) (HasSeveralCause manner files names wrote writes) _ c.explain_texts.ensures.ok
    (all_untold manner files names wrote writes c.explain_texts.result c.explain_texts.ensures.not_write c.explain_texts.ensures.fault)
    (λ fault stops. stops) (λ told status fault tells stops. told_cut manner files names wrote writes told status fault tells stops)

pub returns-clause-status : goal.returns-clause-status
returns-clause-status g c =
    let manner = style c.args.is_painted c.args.extent c.args.rendering in
    let files = (g.H.Host.sources (held c.args.host.now)).file in
    let names = map string_bytes c.args.files.now in
    written c.explain_texts.result (g.W.Write.contents (held c.args.output.now)) (g.W.Write.contents (held c.write_told.new.output)) c.args.output.now c.write_told.new.output c.write_told.result c.write_told.ensures
    (TellsSeveral manner files names) _ c.explain_texts.ensures.ok
    (λ told status tells wrote. few_told manner files names told status tells)

pub returns-clause-devices : goal.returns-clause-devices
returns-clause-devices g c =
    left c.explain_texts.result (g.W.Write.contents (held c.args.output.now)) (g.W.Write.contents (held c.write_told.new.output)) c.args.output.now c.write_told.new.output c.write_told.result c.write_told.ensures
    _ c.explain_texts.ensures.read_failed c.explain_texts.ensures.not_write c.requires.writer

pub returns-clause-lacking : goal.returns-clause-lacking
returns-clause-lacking g c = λ lacking.
    same_fault c.explain_texts.result (g.W.Write.contents (held c.args.output.now)) (g.W.Write.contents (held c.write_told.new.output)) c.args.output.now c.write_told.new.output c.write_told.result c.write_told.ensures
    Read (c.explain_texts.ensures.lacking lacking)
