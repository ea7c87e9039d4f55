use Rattle.order_list.proofs.groups.Groups.reserved.Goals as goal

pub returns-clause-value : goal.returns-clause-value
returns-clause-value g c = rw (← c.self.view_is) c.reserved.ensures
