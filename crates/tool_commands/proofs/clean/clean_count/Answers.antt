use Rattle.std.proofs.Common.{rules, refl}
use Rattle.trace_text.specs.Traces.{contents}
use Rattle.command_streams.specs.Streams.{declared_shape}
use Rattle.command_streams.proofs.TakenLines.{taken_more, taken_all}
use Rattle.tool_commands.proofs.CleanSoFar.{clean_at_first, clean_more, all_clean}
use Rattle.tool_commands.proofs.clean.clean_count.Goals as goal

pub loop-line-init : goal.loop-line-init
loop-line-init c = record {
  clean = clean_at_first (declared_shape (contents c.args.trace.now)) c.in_ok-core.core c.in_ok-core.ensures;
  whole = search rules;
}

pub loop-line-preserved : goal.loop-line-preserved
loop-line-preserved c =
    let was = c.loop-line.invariant in record {
      clean = clean_more (declared_shape (contents c.args.trace.now)) c.loop-line.yielded c.in-Some.line _ _ c.reply-reply.result was.clean
          (c.reply-reply.ensures was.clean.gate was.clean.fits) (search rules);
      whole = taken_more _ c.loop-line.yielded _ _ _ was.whole c.in-Some.ensures.steps;
    }

pub returns : goal.returns
returns c =
    let was = c.loop-line.invariant in
    all_clean (contents c.args.trace.now) c.loop-line.yielded _ _ _ was.clean (taken_all _ _ _ was.whole (search rules)) refl (search rules)
