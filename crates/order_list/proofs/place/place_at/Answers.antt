use Rattle.std.proofs.Common.{sym}
use Rattle.order_list.proofs.Groupings.{group_read_at, local_read_at, next_read_at}
use Rattle.order_list.proofs.place.place_at.Goals as goal

pub returns-clause-local : goal.returns-clause-local
returns-clause-local c = sym (local_read_at c.args.places.now c.args.item c.requires)

pub returns-clause-group : goal.returns-clause-group
returns-clause-group c = sym (group_read_at c.args.places.now c.args.item c.requires)

pub returns-clause-next : goal.returns-clause-next
returns-clause-next c = sym (next_read_at c.args.places.now c.args.item c.requires)
