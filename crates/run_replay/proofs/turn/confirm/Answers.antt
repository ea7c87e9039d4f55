use Rattle.std.proofs.Common.{refl}
use Rattle.run_replay.proofs.Turns.{entered, odd_answer}
use Rattle.run_replay.proofs.turn.confirm.Goals as goal

pub returns-then-is_same_answer-clause-ok : goal.returns-then-is_same_answer-clause-ok
returns-then-is_same_answer-clause-ok g c = λ state fits.
    let next = c.in-Ok.ensures.judges state fits in
    (next.0, next.2, entered c.args.entry state next.0 _ next.1 next.2.kept.right.judged (c.if-is_same_answer.ensures.0 refl))

pub returns-else-is_same_answer-clause-strange : goal.returns-else-is_same_answer-clause-strange
returns-else-is_same_answer-clause-strange g c = λ state fits e.
    let next = c.in-Ok.ensures.judges state fits in
    odd_answer c.args.entry state next.0 _ next.1 next.2.kept.right.judged
    (λ same. let told = c.if-is_same_answer.ensures.1 same in cc)
