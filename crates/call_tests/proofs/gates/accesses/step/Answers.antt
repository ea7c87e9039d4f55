use Rattle.model_strands.specs.History.{split, call}
use Rattle.sp_labels.specs.Roster.{event_of_sync, event_of_return}
use Rattle.shadow_history.proofs.Later.{stands-later}
use Rattle.call_tests.proofs.gates.accesses.step.Goals as goal

pub returns-in-Spawn-clause-stands : goal.returns-in-Spawn-clause-stands
returns-in-Spawn-clause-stands g c =
    stands-later _ _ _ c.requires.stands (λ answer. split c.args.strand answer.child answer.next answer.join answer.first) c.spawn.result c.spawn.ensures.ok c.spawn.ensures.err

pub returns-in-Sync-clause-stands : goal.returns-in-Sync-clause-stands
returns-in-Sync-clause-stands g c = stands-later _ _ _ c.requires.stands (event_of_sync c.args.strand) c.sync.result c.sync.ensures.ok c.sync.ensures.err

pub returns-in-Return-clause-stands : goal.returns-in-Return-clause-stands
returns-in-Return-clause-stands g c = stands-later _ _ _ c.requires.stands (event_of_return c.args.strand) c.ret.result c.ret.ensures.ok c.ret.ensures.err

pub returns-then-is_none-clause-stands : goal.returns-then-is_none-clause-stands
returns-then-is_none-clause-stands g c =
    let (history, accesses, follows, remembers) = c.requires.stands in
    (history, _, follows, c.add.ensures.added history accesses follows remembers)

pub returns-in-Call-clause-stands : goal.returns-in-Call-clause-stands
returns-in-Call-clause-stands g c = stands-later _ _ _ c.requires.stands (λ _. call c.args.strand) c.call.result c.call.ensures.ok c.call.ensures.err
