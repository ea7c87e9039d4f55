use Rattle.std.proofs.Common.{ap, ◌∙◌}
use Rattle.sarif_logs.specs.Accesses.{AccessParts}
use Rattle.sarif_logs.specs.Rules.{rule_named}
use Rattle.sarif_logs.proofs.Objects.{puts, told_as, finishes}
use Rattle.sarif_logs.proofs.Telling.{result_begun}
use Rattle.sarif_logs.proofs.result.race_result.Goals as goal

pub returns : goal.returns
returns c =
    let begun = result_begun _ (c.named-rule.ensures ∙ ap rule_named c.words_at.ensures)
    (ap (λ (access : AccessParts). access.place) c.access_at-refused.ensures) c.count_at.ensures c.begin_result.ensures in
    let message = puts _ _ _ begun (told_as _ _ c.race_message.ensures) c.with_made.ensures in
    let properties = puts _ _ _ message (told_as _ _ c.race_properties.ensures) c.with_made-2.ensures in
    finishes _ _ c.finish.result (puts _ _ _ properties (told_as _ _ c.related_list.ensures) c.with_made-3.ensures) c.finish.ensures
