use Rattle.std.proofs.Common.{refl, ◌∙◌}
use Rattle.sarif_logs.proofs.Objects.{begins, puts, finishes}
use Rattle.race_records.proofs.PlainLists.{told_as_is}
use Rattle.race_records.proofs.unjudged.faulty_value.Goals as goal

pub returns : goal.returns
returns c =
    let faults = puts _ _ _ (begins _ _ c.new.ensures) (c.from.ensures ∙ told_as_is _) c.with.ensures in
    let more = puts _ _ _ faults c.from-2.ensures c.with-2.ensures in
    let outcome = puts _ _ _ more refl c.with_text.ensures in
    finishes _ _ c.finish.result (puts _ _ _ outcome c.from-3.ensures c.with-3.ensures) c.finish.ensures
