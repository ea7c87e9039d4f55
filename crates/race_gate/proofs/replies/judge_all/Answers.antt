use Rattle.std.proofs.Common.{◌∙◌, refl, arith}
use Rattle.std.proofs.lemmas.List.{take_all, take_more}
use Rattle.std.proofs.lemmas.Result.{err_from_is_err_and}
use Rattle.race_gate.proofs.Lists.{JudgesAll-more}
use Rattle.race_gate.proofs.Admitted.{admits-all}
use Rattle.race_gate.proofs.replies.judge_all.Goals as goal

pub loop-request-preserved : goal.loop-request-preserved
loop-request-preserved g c = record {
  replied = JudgesAll-more _ _ _ _ _ _ _ _ _ (take_more c.args.requests.now c.loop-request.request-index _ c.loop-request-test.true) c.push_reserved.ensures.items
      c.loop-request.invariant.replied c.reply_to.ensures.replies;
  count = omega (arith, c.push_reserved.ensures.len, c.loop-request.invariant.count);
  room = c.push_reserved.ensures.capacity ∙ c.loop-request.invariant.room;
  judged = c.reply_to.ensures.judged;
  values = c.reply_to.ensures.values;
}

pub returns-clause-replies : goal.returns-clause-replies
returns-clause-replies g c =
    let whole = take_all c.loop-request.request-index c.args.requests.now (omega arith) in
    rw whole at c.loop-request.invariant.replied

pub returns-clause-admitted : goal.returns-clause-admitted
returns-clause-admitted g c = admits-all _ _ _ _ (returns-clause-replies g c)

pub returns-in_err-replies-clause-err : goal.returns-in_err-replies-clause-err
returns-in_err-replies-clause-err g c = rw (err_from_is_err_and c.from_residual.result c.from_residual.ensures.1).1 refl

pub loop-request-init : goal.loop-request-init
loop-request-init g c = record {
  replied = rw c.in_ok-replies.ensures.items refl;
  count = c.in_ok-replies.ensures.len;
  room = c.in_ok-replies.ensures.exact;
  judged = c.history-entries.ensures.judged;
  values = c.memory-cells.ensures.values;
}

pub returns-clause-judged : goal.returns-clause-judged
returns-clause-judged g c = c.loop-request.invariant.judged

pub returns-clause-values : goal.returns-clause-values
returns-clause-values g c = c.loop-request.invariant.values

pub returns-in_err-replies-clause-judged : goal.returns-in_err-replies-clause-judged
returns-in_err-replies-clause-judged g c = c.history-entries.ensures.judged

pub returns-in_err-replies-clause-values : goal.returns-in_err-replies-clause-values
returns-in_err-replies-clause-values g c = c.memory-cells.ensures.values
