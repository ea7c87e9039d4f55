use Rattle.std.proofs.Common.{refl}
use Rattle.sarif_logs.proofs.Objects.{begins, puts, told_as, finishes}
use Rattle.sarif_logs.proofs.Telling.{one_listed}
use Rattle.sarif_logs.proofs.log.log_value.Goals as goal

pub returns : goal.returns
returns c =
    let schema = puts _ _ _ (begins _ _ c.new.ensures) refl c.with_text.ensures in
    let version = puts _ _ _ schema refl c.with_text-2.ensures in
    finishes _ _ c.finish.result
    (puts _ _ _ version (told_as _ _ (one_listed _ _ _ c.run_value.ensures c.list_of_one.ensures)) c.with_made.ensures) c.finish.ensures
