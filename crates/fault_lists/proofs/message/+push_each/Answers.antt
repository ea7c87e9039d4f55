use Rattle.std.proofs.Common.{rules, arith}
use Rattle.std.proofs.lemmas.Grind.{common_steps}
use Rattle.fault_lists.proofs.Messages.{each_more}
use Rattle.fault_lists.proofs.message.+push_each.Goals as goal

pub returns : goal.returns
returns t c =
    each_more _ _ _ c.args.faults.now _ _ c.args.told.now.items c.push_words.new.text.items c.extend_from_slice.new.self.items _
    c.in_ok-one.one.items _ c.in_ok-one.ensures (search rules) (search rules)
    c.in_ok-push_each.ensures.1 c.in_ok-push_each.ensures.2 (first_of (search rules, grind (arith, common_steps)))
