use Rattle.model_strands.specs.Strands.{status}
use Rattle.race_pairs.proofs.Statuses.{not_both, split_join, split_next, split_off}
use Rattle.race_pairs.proofs.standing.split_effect.Goals as goal

pub returns-then-strand-spawned-clause-status : goal.returns-then-strand-spawned-clause-status
returns-then-strand-spawned-clause-status c =
    split_join c.args.spawner c.args.spawned.child c.args.spawned.next c.args.spawned.join c.args.strand c.args.spawned.first c.if-spawned.true
    c.if-strand-spawned.true

pub returns-then-strand-spawned-2-clause-status : goal.returns-then-strand-spawned-2-clause-status
returns-then-strand-spawned-2-clause-status c =
    split_next c.args.spawner c.args.spawned.child c.args.spawned.next c.args.spawned.join c.args.strand c.args.spawned.first
    (not_both c.args.spawned.first _ c.else-spawned.either) c.if-strand-spawned-2.true

pub returns-else-strand-spawned-2-clause-status : goal.returns-else-strand-spawned-2-clause-status
returns-else-strand-spawned-2-clause-status c = λ history.
    split_off c.args.spawner c.args.spawned.child c.args.spawned.next c.args.spawned.join c.args.strand c.args.spawned.first
    (not_both c.args.spawned.first _ c.else-spawned.either) c.if-strand-spawned-2.false history _ (c.follow_effect.ensures.status (status history))
