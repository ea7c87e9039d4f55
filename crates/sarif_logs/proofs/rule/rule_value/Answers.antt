use Rattle.std.proofs.Common.{ap}
use Rattle.serde_json.specs.Data.{string}
use Rattle.sarif_logs.specs.Places.{text_told}
use Rattle.sarif_logs.specs.Rules.{RuleTexts}
use Rattle.sarif_logs.proofs.Objects.{begins, puts, told_as, told_by, finishes}
use Rattle.sarif_logs.proofs.rule.rule_value.Goals as goal

pub returns : goal.returns
returns c =
    let level = puts _ _ _ (begins _ _ c.new.ensures) (told_as _ _ c.level_value.ensures) c.with_made.ensures in
    let described = puts _ _ _ level (told_by _ (ap (λ (texts : RuleTexts). text_told texts.description) c.texts-texts.ensures) c.text_value.ensures)
    c.with_made-2.ensures in
    let helped = puts _ _ _ described (told_by _ (ap (λ (texts : RuleTexts). text_told texts.help) c.texts-texts.ensures) c.text_value-2.ensures)
    c.with_made-3.ensures in
    let known = puts _ _ _ helped (ap (λ (texts : RuleTexts). string texts.id) c.texts-texts.ensures) c.with_text.ensures in
    let named = puts _ _ _ known (ap (λ (texts : RuleTexts). string texts.name) c.texts-texts.ensures) c.with_text-2.ensures in
    finishes _ _ c.finish.result
    (puts _ _ _ named (told_by _ (ap (λ (texts : RuleTexts). text_told texts.summary) c.texts-texts.ensures) c.text_value-3.ensures) c.with_made-4.ensures)
    c.finish.ensures
