use Rattle.std.proofs.Common.{ap}
use Rattle.sarif_logs.proofs.Objects.{begins, puts, told_as, told_by, finishes}
use Rattle.race_records.proofs.Optional.{number_told}
use Rattle.race_records.specs.Values.{text_or_null}
use Rattle.race_records.proofs.site.site_value.Goals as goal

pub returns : goal.returns
returns c =
    let code = puts _ _ _ (begins _ _ c.new.ensures) (told_as _ _ c.text_or_null.ensures) c.with_made.ensures in
    let file = puts _ _ _ code (told_by _ (ap text_or_null c.bytes_of.ensures) c.text_or_null-2.ensures) c.with_made-2.ensures in
    let function = puts _ _ _ file (told_by _ (ap text_or_null c.bytes_of-2.ensures) c.text_or_null-3.ensures) c.with_made-3.ensures in
    let column = puts _ _ _ function (number_told _ c.from.ensures) c.with.ensures in
    finishes _ _ c.finish.result (puts _ _ _ column (number_told _ c.from-2.ensures) c.with-2.ensures) c.finish.ensures
