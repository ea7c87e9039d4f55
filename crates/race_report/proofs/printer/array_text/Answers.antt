use Rattle.std.proofs.Common.{Some, [], map}
use Rattle.serde_json.specs.Data.{array}
use Rattle.serde_json.specs.View.{items_of}
use Rattle.serde_json.proofs.FreeTexts.{text_of_value}
use Rattle.race_report.specs.RefusalValues.{refusal_in}
use Rattle.race_report.proofs.ItemTexts.{array_sent, array_whole}
use Rattle.race_report.proofs.printer.array_text.Goals as goal

pub returns-in-Ok : goal.returns-in-Ok
returns-in-Ok c =
    let refusals = c.args.refusals.now in
    let told = c.in-Ok.ensures.events in
    text_of_value (array (items_of (map refusal_in refusals))) told.0 _ (array_sent refusals (Some []) told.0 told.1) told.2 (array_whole refusals)
