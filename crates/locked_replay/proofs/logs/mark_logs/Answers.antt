use Rattle.std.proofs.Common.{◌<◌, length, take, subst, ◌∙◌, arith}
use Rattle.std.proofs.lemmas.List.{take_all}
use Rattle.locked_replay.specs.Receipts.{AreMarked}
use Rattle.locked_replay.specs.Logs.{all_receipts}
use Rattle.locked_replay.proofs.Theirs.{rise_next, receipts_next, not_theirs}
use Rattle.locked_replay.proofs.logs.mark_logs.Goals as goal

pub returns-then-not-mark_all : goal.returns-then-not-mark_all
returns-then-not-mark_all g c are =
    let logs = c.args.logs.now in
    let entries = c.args.entries.now.items in
    let before = all_receipts (take c.loop-log.log-index logs) in
    let refused = c.if-not-mark_all.ensures.marks before (c.loop-log.invariant.1 are).1 in
    not_theirs logs c.loop-log.log-index c.log-item.result c.loop-log-test.true c.log-item.is entries refused

pub loop-log-preserved : goal.loop-log-preserved
loop-log-preserved g c =
    let logs = c.args.logs.now in
    let entries = c.args.entries.now.items in
    let marks = c.mark_all.new.marks in
    let before = all_receipts (take c.loop-log.log-index logs) in
    let low : c.loop-log.log-index < length logs = c.loop-log-test.true in (
      c.mark_all.ensures.length ∙ c.loop-log.invariant.0,
      λ are. (
          let known = c.loop-log.invariant.1 are in
          let taken = c.if-not-mark_all.ensures.marks before known.1 in (
            rise_next logs c.loop-log.log-index c.log-item.result low c.log-item.is known.0 taken.0,
            subst (AreMarked marks entries) (receipts_next logs c.loop-log.log-index c.log-item.result low c.log-item.is) taken.1,
          )
          ),
    )

pub returns : goal.returns
returns g c are =
    let whole = take_all c.loop-log.log-index c.args.logs.now (omega (arith, c.loop-log-test.false, c.loop-log.auto.log-index-end)) in
    rw whole at (c.loop-log.invariant.1 are)
