use Rattle.std.proofs.Common.{◌≡◌, drop}
use Rattle.std.specs.List.{find}
use Rattle.sarif_logs.specs.Rules.{is_named}
use Rattle.sarif_logs.proofs.rule.first_named.Given as goal

-- the first among the rules that are left is the first of all
abbrev pub invariant-loop-rule : goal.invariant-loop-rule
invariant-loop-rule l = find (is_named l.id) (drop l.rule-index l.rules) ≡ find (is_named l.id) l.rules
