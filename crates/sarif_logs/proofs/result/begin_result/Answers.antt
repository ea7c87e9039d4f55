use Rattle.std.proofs.Common.{ap, ◌∙◌}
use Rattle.serde_json.specs.Data.{string}
use Rattle.sarif_logs.specs.Places.{count_told}
use Rattle.sarif_logs.specs.Rules.{RuleTexts}
use Rattle.sarif_logs.proofs.Objects.{begins, puts, told_as}
use Rattle.sarif_logs.proofs.Telling.{one_listed}
use Rattle.sarif_logs.proofs.result.begin_result.Goals as goal

pub returns : goal.returns
returns c =
    let level = puts _ _ _ (begins _ _ c.new.ensures) (ap string c.level.ensures) c.with_text.ensures in
    let located = puts _ _ _ level (told_as _ _ (one_listed _ _ _ c.location_value.ensures c.list_of_one.ensures)) c.with_made.ensures in
    let counted = puts _ _ _ located c.from.ensures c.with.ensures in
    let known = puts _ _ _ counted (ap (λ (texts : RuleTexts). string texts.id) c.texts.ensures) c.with_text-2.ensures in
    puts _ _ _ known (c.from-2.ensures ∙ ap count_told c.number.ensures) c.with-2.ensures
