use Rattle.std.proofs.Common.{rules, arith}
use Rattle.std.proofs.lemmas.Grind.{common_steps}
use Rattle.fault_lists.proofs.Messages.{none_told, several_told}
use Rattle.fault_lists.proofs.message.push_others.Goals as goal

pub returns-then-is_empty : goal.returns-then-is_empty
returns-then-is_empty c = none_told _ _ _ _ _ _ _ (first_of (search rules, grind (arith, common_steps))) (search rules)

pub returns : goal.returns
returns c =
    several_told _ _ _ _ _ _ _ _ _ _ _ (first_of (search rules, grind (arith, common_steps))) c.in_ok-push_each.ensures.1 c.in_ok-push_each.ensures.2
    (search rules) c.in_ok-push_faults.ensures (first_of (search rules, grind (arith, common_steps)))
