use Rattle.steal_workers.proofs.Collected.{brings_more}
use Rattle.steal_workers.proofs.joining.Collection.add.Goals as goal

pub returns-clause-adds : goal.returns-clause-adds
returns-clause-adds g c refused workers was =
    let parts = c.into_parts-log.ensures in
    brings_more refused workers c.args.worker c.args.self.now _ _ _ _ was c.push_reserved.ensures.items c.push_reserved-2.ensures.items c.push_reserved-3.ensures.items parts.log.0 parts.log.1 parts.owner parts.reaches c.first_of-self.ensures
