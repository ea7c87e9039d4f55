use Rattle.std.proofs.Common.{◌++◌, take, map}
use Rattle.sarif_logs.specs.Lists.{items_made, Turns}
use Rattle.sarif_logs.specs.Rules.{rule_told, all_rules}
use Rattle.sarif_logs.proofs.rule.rules_value.Given as goal

-- behind what was there, the rules so far
abbrev pub invariant-loop-rule : goal.invariant-loop-rule
invariant-loop-rule l =
    Turns (items_made l.initial.list) (λ before. before ++ map rule_told (take l.rule-index all_rules)) (items_made l.list)
