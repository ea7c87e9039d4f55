use Rattle.fault_lists.proofs.list.+list_from.Given as goal

abbrev pub decreases-list_from : goal.decreases-list_from
decreases-list_from l = l.looks
