use Rattle.sarif_logs.proofs.Objects.{puts, told_as, finishes}
use Rattle.race_records.proofs.Copied.{copied}
use Rattle.race_records.proofs.race.race_value.Goals as goal

pub returns : goal.returns
returns c =
    let help = puts _ _ _ c.begin_race.ensures (copied _ c.clone.ensures.cases c.help.ensures) c.with_made.ensures in
    let locations = puts _ _ _ help (told_as _ _ c.names_value.ensures) c.with_made-2.ensures in
    let times = puts _ _ _ locations c.from.ensures c.with.ensures in
    finishes _ _ c.finish.result (puts _ _ _ times c.from-2.ensures c.with-2.ensures) c.finish.ensures
