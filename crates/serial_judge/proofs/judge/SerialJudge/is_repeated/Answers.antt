-- The last plain access of the location is the running strand's, and stands for the new one.
use Rattle.std.proofs.Common.{inl, inr, sym, subst}
use Rattle.serial_judge.specs.Judge.{Judge}
use Rattle.serial_judge.specs.Follows.{Follows}
use Rattle.serial_judge.proofs.Beginning.{repeated}
use Rattle.serial_judge.proofs.judge.SerialJudge.is_repeated.Goals as goal

pub returns-then-cell-eq1 : goal.returns-then-cell-eq1
returns-then-cell-eq1 g c t run accesses f m =
    repeated _ run c.args.cell accesses c.args.kind (subst (λ (z : Judge). Follows z run) (sym c.self.view_is) f) m c.if-cell-self.true (inl c.if-cell-eq1.true)

pub returns-in-Read : goal.returns-in-Read
returns-in-Read g c t run accesses f m =
    repeated _ run c.args.cell accesses c.args.kind (subst (λ (z : Judge). Follows z run) (sym c.self.view_is) f) m c.if-cell-self.true (inr c.in-Read.is)
