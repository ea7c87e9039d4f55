use Rattle.std.proofs.Common.{◌≡◌, Err, sym, ◌∙◌}
use Rattle.steal_workers.proofs.Asking.{err_is}
use Rattle.steal_workers.proofs.worker.Worker.work.Goals as goal

pub returns-clause-torn : goal.returns-clause-torn
returns-clause-torn g c torn = absurd (cc)

pub returns-in_err-walk-in-Some-find-clause-torn : goal.returns-in_err-walk-in-Some-find-clause-torn
returns-in_err-walk-in-Some-find-clause-torn g c torn =
    let told : c.from_residual.result ≡ Err c.in_err-walk-in-Some-find.field-0.0 = err_is _ _ c.from_residual.ensures.1 in
    c.in_err-walk-in-Some-find.ensures.torn (sym told ∙ torn)
