use Rattle.std.proofs.Common.{◌++◌, ap, refl, arith, ◌∙◌}
use Rattle.std.proofs.lemmas.List.{length_push}
use Rattle.trace_text.specs.Traces.{contents}
use Rattle.tool_commands.proofs.Answering.{answered_more, answers_end}
use Rattle.command_streams.proofs.TakenLines.{taken_more}
use Rattle.tool_commands.proofs.ask.ask_all.Goals as goal

pub returns-in-Err : goal.returns-in-Err
returns-in-Err g c =
    let was = c.loop-line.invariant in
    rw c.in-Err.ensures.replies.0 (answers_end c.loop-line.yielded _ _ (contents c.args.trace.now) _ c.loop-line.gate _
    (was.whole ∙ ap (λ l. c.loop-line.yielded ++ l) c.in-Some.ensures.steps) (λ j. record { cells = c.in_ok-shape.ensures.cells j; monoids = c.in_ok-shape.ensures.monoids j })
    was.answered c.in-Err.ensures.replies.1 refl (omega (arith, was.number)))

pub loop-line-preserved : goal.loop-line-preserved
loop-line-preserved g c =
    let was = c.loop-line.invariant in record {
      answered = answered_more c.loop-line.yielded _ _ c.loop-line.gate c.judge.new.self c.in-Ok.field-0 c.in-Ok.ensures.replies c.in-Ok.ensures.judged was.answered;
      whole = taken_more _ c.loop-line.yielded _ _ _ was.whole c.in-Some.ensures.steps;
      number = omega (arith, was.number, length_push c.loop-line.yielded c.in-Some.line);
    }
