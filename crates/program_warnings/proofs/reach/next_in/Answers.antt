use Rattle.std.proofs.Common.{◌≡◌, Some, false, subst}
use Rattle.std.specs.Prelude.{slice_get}
use Rattle.program_warnings.proofs.Reaching.{body_more}
use Rattle.program_warnings.proofs.reach.next_in.Goals as goal
use Rattle.program_warnings.proofs.reach.next_in.Goals.{in-Some+else-is_unmarked, in_default}

pub loop-statement-preserved : goal.loop-statement-preserved
loop-statement-preserved c =
    body_more c.args.body.now c.args.marks.now c.loop-statement.statement-index c.statement-item.result c.loop-statement-test.true c.statement-item.is
    c.loop-statement.invariant
    (elim c.match-function_of.branch [
      | in-Some+else-is_unmarked w ↦ λ callee begins.
          let same : w.in-Some.function ≡ callee = cc in
          subst (λ n. slice_get c.args.marks.now n ≡ Some false → ⊥) same (w.is_unmarked.ensures.marked w.if-is_unmarked.false)
      | in_default w ↦ λ callee begins. absurd (cc)
    ])
