use Rattle.std.proofs.Common.{◌∙◌, IfErr, subst}
use Rattle.std.specs.String.{string_bytes}
use Rattle.dag_drawing.specs.declared.form.Form.{Form}
use Rattle.command_streams.specs.Watched.{held}
use Rattle.command_streams.specs.Readings.{reading}
use Rattle.command_streams.specs.Streams.{HasCause}
use Rattle.tool_commands.specs.Elided.{HasElisionCause}
use Rattle.tool_commands.specs.Drawings.{HasDrawingCause}
use Rattle.command_jobs.specs.Performed.{form_of}
use Rattle.command_jobs.proofs.Sources.{judged_source, named_source, stopped_of}
use Rattle.command_jobs.proofs.performing.answer_read.Goals as goal

pub returns-in-Judge-clause-fault : goal.returns-in-Judge-clause-fault
returns-in-Judge-clause-fault g c = rw c.in-Judge.is (λ sources reads.
    stopped_of (λ before behind fault. HasCause before behind (g.W.Write.contents (held c.args.output.now)) (g.W.Write.contents (held c.judge_stream.new.output)) c.in-Judge.limit fault)
    _ _ _ c.judge_stream.result (reads ∙ judged_source sources c.in-Judge.file c.in-Judge.limit) c.judge_stream.ensures.fault)

pub returns-in-Elide-clause-fault : goal.returns-in-Elide-clause-fault
returns-in-Elide-clause-fault g c = rw c.in-Elide.is (λ sources reads.
    stopped_of (λ before behind fault. HasElisionCause before behind (g.W.Write.contents (held c.args.output.now)) (g.W.Write.contents (held c.elide_text.new.output)) c.in-Elide.limit fault)
    _ _ _ c.elide_text.result (reads ∙ named_source sources (string_bytes c.in-Elide.file)) c.elide_text.ensures.fault)

pub returns-in-Draw-clause-fault : goal.returns-in-Draw-clause-fault
returns-in-Draw-clause-fault g c = rw c.in-Draw.is (λ sources reads.
    stopped_of (λ before behind fault. HasDrawingCause (form_of c.in-Draw.language) (reading before behind) (g.W.Write.contents (held c.args.output.now)) (g.W.Write.contents (held c.draw_text.new.output)) fault)
    _ _ _ c.draw_text.result (reads ∙ named_source sources (string_bytes c.in-Draw.file))
    (subst (λ (form : Form). IfErr c.draw_text.result (HasDrawingCause form (reading (g.R.Read.remaining (held c.args.reader.now)) (g.R.Read.remaining (held c.draw_text.new.input)))
    (g.W.Write.contents (held c.args.output.now)) (g.W.Write.contents (held c.draw_text.new.output)))) c.form_of.ensures c.draw_text.ensures.fault))
