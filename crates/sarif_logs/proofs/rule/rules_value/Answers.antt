use Rattle.std.proofs.Common.{◌++◌, map, append-nil, ap}
use Rattle.std.proofs.lemmas.List.{take_all}
use Rattle.sarif_logs.specs.Rules.{rule_told, all_rules}
use Rattle.sarif_logs.proofs.Objects.{told_as}
use Rattle.sarif_logs.proofs.Telling.{turns_so, stays, item_more, listed}
use Rattle.sarif_logs.proofs.Listing.{told_more}
use Rattle.sarif_logs.proofs.rule.rules_value.Goals as goal

pub loop-rule-init : goal.loop-rule-init
loop-rule-init c = stays _ _ (λ before. append-nil before)

pub loop-rule-preserved : goal.loop-rule-preserved
loop-rule-preserved c =
    told_more rule_told all_rules c.loop-rule.rule-index _ _ _ _ c.loop-rule-test.true c.loop-rule.invariant
    (item_more _ _ _ _ (told_as _ _ c.rule_value.ensures) c.push.ensures)

pub returns : goal.returns
returns c =
    listed _ _ (λ before. before ++ map rule_told all_rules) c.finish.result c.new-list.ensures
    (turns_so _ _ _ _ (λ before. ap (λ some. before ++ map rule_told some) (take_all c.loop-rule.rule-index all_rules c.loop-rule-test.false))
    c.loop-rule.invariant) c.finish.ensures
