-- The judge has a record of the access, and the answer to it is right.
use Rattle.std.proofs.Common.{sym, subst}
use Rattle.serial_judge.specs.Judge.{Judge}
use Rattle.serial_judge.specs.Follows.{Follows}
use Rattle.serial_judge.proofs.Recorded.{first_within, noted}
use Rattle.serial_judge.proofs.Judging.{taken}
use Rattle.serial_judge.proofs.judge.SerialJudge.access.Goals as goal

pub number_for-requires-clause-within : goal.number_for-requires-clause-within
number_for-requires-clause-within g c = first_within _ c.self.invariant.0 c.self.invariant.1

pub invariant_of-self-2 : goal.invariant_of-self-2
invariant_of-self-2 g c =
    let t = noted _ c.self.invariant.0 c.number_for.new.self _ c.in_ok-number.number c.self.invariant.1 c.in_ok-number.ensures.ok in (t.0, t.1.follows)

pub returns-clause-ok : goal.returns-clause-ok
returns-clause-ok g c run f =
    taken _ run c.number_for.new.self c.args.cell c.args.kind c.args.site c.in_ok-number.number c.answer.result
    (subst (λ (z : Judge). Follows z run) (sym c.self.view_is) f) c.in_ok-number.ensures.ok c.answer.ensures
