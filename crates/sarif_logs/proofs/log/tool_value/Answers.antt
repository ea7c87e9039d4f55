use Rattle.std.proofs.Common.{refl}
use Rattle.sarif_logs.proofs.Objects.{begins, puts, told_as, finishes}
use Rattle.sarif_logs.proofs.log.tool_value.Goals as goal

pub returns : goal.returns
returns c =
    let named = puts _ _ _ (begins _ _ c.new.ensures) refl c.with_text.ensures in
    let driver = finishes _ _ c.finish-driver.result (puts _ _ _ named (told_as _ _ c.rules_value.ensures) c.with_made.ensures)
    c.finish-driver.ensures in
    finishes _ _ c.finish.result (puts _ _ _ (begins _ _ c.new-2.ensures) (told_as _ _ driver) c.with_made-2.ensures) c.finish.ensures
