use Rattle.fault_lists.proofs.Adding.{lists_first, lists_more}
use Rattle.fault_lists.proofs.list.list_others.Goals as goal

pub returns-then-is_last : goal.returns-then-is_last
returns-then-is_last c =
    lists_first c.args.meant c.args.text.now _ c.args.first _ _ _ c.requires c.in_ok-source.ensures c.in_ok-is_last.ensures c.if-is_last.true
    c.no_others.ensures.faults c.no_others.ensures.more

pub returns : goal.returns
returns c =
    lists_more c.args.meant c.args.text.now _ c.args.first c.in_ok-others.others.faults.items c.in_ok-others.others.is_more _ c.requires
    c.in_ok-source.ensures c.in_ok-is_last.ensures c.if-is_last.false c.in_ok-others.ensures
