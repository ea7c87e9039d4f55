use Rattle.std.proofs.Common.{[], refl, inl, inr}
use Rattle.model_strands.specs.Updated.{updated}
use Rattle.model_strands.specs.History.{joined}
use Rattle.call_tests.proofs.BranchExamples.{first_spawn_legal, first_join_legal, second_spawn_legal, second_join_legal, first_join, second_join, first_return, second_return, returned-once, joined-once, returned-twice, joined-twice}
use Rattle.branch_names.proofs.Events.{room-follows}
use Rattle.call_tests.proofs.strands.branches.names_two_joins.Goals as goal

pub spawned-requires-clause-takes : goal.spawned-requires-clause-takes
spawned-requires-clause-takes c = ([], room-follows _ _ [] c.in_ok-reserve_event.ensures.ok c.requires, first_spawn_legal)

pub joined-requires-clause-takes : goal.joined-requires-clause-takes
joined-requires-clause-takes c =
    (joined 2 3, refl, (first_return, returned-once _ _ _ _ c.requires c.in_ok-reserve_event.ensures.ok c.spawned.ensures.follows c.in_ok-reserve_event-2.ensures.ok, first_join_legal))

pub same-with_join-requires-clause-first_named : goal.same-with_join-requires-clause-first_named
unfolding updated
same-with_join-requires-clause-first_named c =
    (first_join, joined-once _ _ _ _ _ c.requires c.in_ok-reserve_event.ensures.ok c.spawned.ensures.follows c.in_ok-reserve_event-2.ensures.ok c.joined.ensures.follows, inr refl)

pub same-with_join-requires-clause-second_named : goal.same-with_join-requires-clause-second_named
unfolding updated
same-with_join-requires-clause-second_named c =
    (first_join, joined-once _ _ _ _ _ c.requires c.in_ok-reserve_event.ensures.ok c.spawned.ensures.follows c.in_ok-reserve_event-2.ensures.ok c.joined.ensures.follows, inl refl)

pub same-children-requires-clause-first_named : goal.same-children-requires-clause-first_named
unfolding updated
same-children-requires-clause-first_named c =
    (first_join, joined-once _ _ _ _ _ c.requires c.in_ok-reserve_event.ensures.ok c.spawned.ensures.follows c.in_ok-reserve_event-2.ensures.ok c.joined.ensures.follows, inr refl)

pub same-children-requires-clause-second_named : goal.same-children-requires-clause-second_named
unfolding updated
same-children-requires-clause-second_named c =
    (first_join, joined-once _ _ _ _ _ c.requires c.in_ok-reserve_event.ensures.ok c.spawned.ensures.follows c.in_ok-reserve_event-2.ensures.ok c.joined.ensures.follows, inr refl)

pub same-with_child-requires-clause-first_named : goal.same-with_child-requires-clause-first_named
unfolding updated
same-with_child-requires-clause-first_named c =
    (first_join, joined-once _ _ _ _ _ c.requires c.in_ok-reserve_event.ensures.ok c.spawned.ensures.follows c.in_ok-reserve_event-2.ensures.ok c.joined.ensures.follows, inr refl)

pub same-with_child-requires-clause-second_named : goal.same-with_child-requires-clause-second_named
unfolding updated
same-with_child-requires-clause-second_named c =
    (first_join, joined-once _ _ _ _ _ c.requires c.in_ok-reserve_event.ensures.ok c.spawned.ensures.follows c.in_ok-reserve_event-2.ensures.ok c.joined.ensures.follows, inr refl)

pub spawned-requires-2-clause-takes : goal.spawned-requires-2-clause-takes
spawned-requires-2-clause-takes c =
    (first_join, room-follows _ _ first_join c.in_ok-reserve_event-3.ensures.ok (joined-once _ _ _ _ _ c.requires c.in_ok-reserve_event.ensures.ok c.spawned.ensures.follows c.in_ok-reserve_event-2.ensures.ok c.joined.ensures.follows), second_spawn_legal)

pub joined-requires-2-clause-takes : goal.joined-requires-2-clause-takes
joined-requires-2-clause-takes c =
    (joined 5 6, refl, (second_return, returned-twice _ _ _ _ (joined-once _ _ _ _ _ c.requires c.in_ok-reserve_event.ensures.ok c.spawned.ensures.follows c.in_ok-reserve_event-2.ensures.ok c.joined.ensures.follows) c.in_ok-reserve_event-3.ensures.ok c.spawned-2.ensures.follows c.in_ok-reserve_event-4.ensures.ok, second_join_legal))

pub same-with_last-requires-clause-first_named : goal.same-with_last-requires-clause-first_named
unfolding updated
same-with_last-requires-clause-first_named c =
    (second_join, joined-twice _ _ _ _ _ (joined-once _ _ _ _ _ c.requires c.in_ok-reserve_event.ensures.ok c.spawned.ensures.follows c.in_ok-reserve_event-2.ensures.ok c.joined.ensures.follows) c.in_ok-reserve_event-3.ensures.ok c.spawned-2.ensures.follows c.in_ok-reserve_event-4.ensures.ok c.joined-2.ensures.follows, inr refl)

pub same-with_last-requires-clause-second_named : goal.same-with_last-requires-clause-second_named
unfolding updated
same-with_last-requires-clause-second_named c =
    (second_join, joined-twice _ _ _ _ _ (joined-once _ _ _ _ _ c.requires c.in_ok-reserve_event.ensures.ok c.spawned.ensures.follows c.in_ok-reserve_event-2.ensures.ok c.joined.ensures.follows) c.in_ok-reserve_event-3.ensures.ok c.spawned-2.ensures.follows c.in_ok-reserve_event-4.ensures.ok c.joined-2.ensures.follows, inl refl)
