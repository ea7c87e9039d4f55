use Rattle.std.proofs.Common.{refl, ap}
use Rattle.serde_json.specs.Data.{string}
use Rattle.sarif_logs.proofs.Objects.{begins, puts, told_as}
use Rattle.race_records.proofs.Optional.{number_told}
use Rattle.race_records.proofs.Copied.{copied}
use Rattle.race_records.proofs.race.begin_race.Goals as goal

pub returns : goal.returns
returns c =
    let kind = puts _ _ _ (begins _ _ c.new.ensures) (told_as _ _ c.kind_value.ensures) c.with_made.ensures in
    let outstanding = puts _ _ _ kind (copied _ c.clone.ensures.cases refl) c.with_made-2.ensures in
    let parting = puts _ _ _ outstanding (copied _ c.clone-2.ensures.cases refl) c.with_made-3.ensures in
    let refused = puts _ _ _ parting (copied _ c.clone-3.ensures.cases refl) c.with_made-4.ensures in
    let witness = puts _ _ _ refused (copied _ c.clone-4.ensures.cases refl) c.with_made-5.ensures in
    let rule = puts _ _ _ witness (ap string c.rule_word.ensures) c.with_text.ensures in
    puts _ _ _ rule (number_told _ c.from.ensures) c.with.ensures
