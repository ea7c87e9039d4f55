use Rattle.std.proofs.Common.{[]}
use Rattle.branch_names.proofs.Events.{room-follows}
use Rattle.call_tests.proofs.ReadExamples.{first_spawn, second_spawn, first_spawn_legal, second_spawn_legal, zero_begun, next_begun, child_begun, child_begun_still, spawned-once, spawned-twice, stands-one}
use Rattle.call_tests.proofs.gates.reads.judges_reads.Goals as goal

pub judge-unset-requires-clause-named : goal.judge-unset-requires-clause-named
judge-unset-requires-clause-named c = ([], c.requires.follows, zero_begun)

pub judge-first-requires-clause-named : goal.judge-first-requires-clause-named
judge-first-requires-clause-named c = ([], c.requires.follows, zero_begun)

pub spawned-requires-clause-takes : goal.spawned-requires-clause-takes
spawned-requires-clause-takes c = ([], room-follows _ _ [] c.in_ok-reserve_event.ensures.ok c.requires.follows, first_spawn_legal)

pub judge-other-requires-clause-named : goal.judge-other-requires-clause-named
judge-other-requires-clause-named c = (first_spawn, spawned-once _ _ _ c.requires.follows c.in_ok-reserve_event.ensures.ok c.spawned.ensures.follows, next_begun)

pub judge-other-requires-clause-stands : goal.judge-other-requires-clause-stands
judge-other-requires-clause-stands c =
    stands-one _ _ _ (c.add.ensures.added [] c.requires.empty) (first_spawn, spawned-once _ _ _ c.requires.follows c.in_ok-reserve_event.ensures.ok c.spawned.ensures.follows, child_begun)

pub spawned-requires-2-clause-takes : goal.spawned-requires-2-clause-takes
spawned-requires-2-clause-takes c =
    let follows = spawned-once _ _ _ c.requires.follows c.in_ok-reserve_event.ensures.ok c.spawned.ensures.follows in
    (first_spawn, room-follows _ _ first_spawn c.in_ok-reserve_event-2.ensures.ok follows, second_spawn_legal)

pub judge-same-requires-clause-named : goal.judge-same-requires-clause-named
judge-same-requires-clause-named c =
    let follows = spawned-once _ _ _ c.requires.follows c.in_ok-reserve_event.ensures.ok c.spawned.ensures.follows in
    (second_spawn, spawned-twice _ _ _ follows c.in_ok-reserve_event-2.ensures.ok c.spawned-2.ensures.follows, child_begun_still)

pub judge-same-requires-clause-stands : goal.judge-same-requires-clause-stands
judge-same-requires-clause-stands c =
    let follows = spawned-once _ _ _ c.requires.follows c.in_ok-reserve_event.ensures.ok c.spawned.ensures.follows in
    stands-one _ _ _ (c.add.ensures.added [] c.requires.empty) (second_spawn, spawned-twice _ _ _ follows c.in_ok-reserve_event-2.ensures.ok c.spawned-2.ensures.follows, child_begun_still)
