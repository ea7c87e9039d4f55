use Rattle.std.proofs.Common.{rules, reverse, subst, refl, ◌∙◌}
use Rattle.trace_text.specs.Traces.{contents}
use Rattle.model_histories.specs.declared.reply.Reply.{Reply}
use Rattle.model_histories.specs.Replies.{Judges}
use Rattle.command_streams.specs.Streams.{declared_shape}
use Rattle.command_streams.proofs.TakenLines.{taken_more, taken_all}
use Rattle.tool_commands.proofs.DigestedSoFar.{digested_at_first, digested_next, digested_more, all_digested}
use Rattle.tool_commands.proofs.judged.grow_digest.Goals as goal

pub loop-line-init : goal.loop-line-init
loop-line-init c = record {
  digested = digested_at_first (declared_shape (contents c.args.trace.now)) c.in_ok-core.core c.args.digest c.in_ok-core.ensures c.requires;
  kept = refl;
  whole = search rules;
}

pub add-requires : goal.add-requires
add-requires c =
    let was = c.loop-line.invariant.digested in
    let next = c.reply.ensures was.gate was.fits in (
      reverse was.gate.history,
      was.digest_is,
      digested_next (declared_shape (contents c.args.trace.now)) _ c.in-Some.line.request c.loop-line.last c.loop-line.core c.reply.new.self c.loop-line.digest c.in-Done.receipt c.entry_of.result was
          next.0 (subst (λ (reply : Reply). Judges was.gate c.in-Some.line.request reply next.0) c.in-Done.is next.1) next.2 c.entry_of.ensures
          (c.may_follow.ensures (search rules)),
    )

pub loop-line-preserved : goal.loop-line-preserved
loop-line-preserved c =
    let was = c.loop-line.invariant in
    let gate = was.digested.gate in
    let next = c.reply.ensures gate was.digested.fits in record {
      digested = digested_more (declared_shape (contents c.args.trace.now)) c.loop-line.yielded c.in-Some.line c.loop-line.last c.loop-line.core c.reply.new.self c.loop-line.digest c.add.new.self
          c.in-Done.receipt c.entry_of.result was.digested
          next.0 (subst (λ (reply : Reply). Judges gate c.in-Some.line.request reply next.0) c.in-Done.is next.1) next.2 c.entry_of.ensures
          (c.may_follow.ensures (search rules)) c.in_ok-add-in-Done.ensures.own c.in_ok-add-in-Done.ensures.next;
      kept = c.in_ok-add-in-Done.ensures.most ∙ was.kept;
      whole = taken_more _ c.loop-line.yielded _ _ _ was.whole c.in-Some.ensures.steps;
    }

pub returns-clause-digested : goal.returns-clause-digested
returns-clause-digested c =
    let was = c.loop-line.invariant in
    all_digested (contents c.args.trace.now) c.loop-line.yielded _ _ _ _ was.digested (taken_all _ _ _ was.whole (search rules)) refl

pub returns-clause-most : goal.returns-clause-most
returns-clause-most c = c.loop-line.invariant.kept
