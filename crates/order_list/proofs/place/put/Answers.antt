use Rattle.order_list.proofs.Groupings.{set_locals, set_groups, next_kept}
use Rattle.order_list.proofs.place.put.Goals as goal

pub returns-clause-locals : goal.returns-clause-locals
returns-clause-locals c = set_locals c.args.places.now c.args.item _

pub returns-clause-groups : goal.returns-clause-groups
returns-clause-groups c = set_groups c.args.places.now c.args.item _

pub returns-clause-nexts : goal.returns-clause-nexts
returns-clause-nexts c = next_kept c.args.places.now c.args.item c.args.local c.args.group c.requires
