use Rattle.std.proofs.Common.{refl, sym, ◌∙◌, subst}
use Rattle.shadow_history.specs.Shadow.{AreKept}
use Rattle.shadow_history.proofs.cell.Cell.find.Goals as goal

pub returns-in_err-extremes : goal.returns-in_err-extremes
returns-in_err-extremes g c history accesses location follows begun kept =
    let none = subst (AreKept history accesses location c.args.earlier) (sym c.extremes.ensures ∙ c.in_err-extremes.was) kept in
    rw c.from_residual.ensures (λ access added par. none access added)

pub returns-in_err-found : goal.returns-in_err-found
returns-in_err-found g c history accesses location follows begun kept =
    let are = subst (AreKept history accesses location c.args.earlier) (sym c.extremes.ensures ∙ c.in_ok-extremes.was) kept in
    rw c.from_residual-in_err-found.ensures (c.in_err-found.ensures history accesses location c.args.earlier follows begun are)

pub returns : goal.returns
returns g c history accesses location follows begun kept =
    let are = subst (AreKept history accesses location c.args.earlier) (sym c.extremes.ensures ∙ c.in_ok-extremes.was) kept in
    (refl, c.in_ok-found.ensures history accesses location c.args.earlier follows begun are)
