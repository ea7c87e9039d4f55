use Rattle.dag_drawing.proofs.Pushed.{on_ok, on_all_ok}
use Rattle.dag_drawing.proofs.Followed.{strand_within, join_within, next_split, next_end, next_join, next_quiet}
use Rattle.dag_drawing.proofs.walk.Walk.follow.Goals as goal

pub spawn-requires : goal.spawn-requires
spawn-requires c = strand_within _ _ _ c.requires.within c.requires.legal _ _ _ c.requires.walk

pub arrive-requires : goal.arrive-requires
arrive-requires c = strand_within _ _ _ c.requires.within c.requires.legal _ _ _ c.requires.walk

pub join-requires : goal.join-requires
join-requires c = record {
  within = strand_within _ _ _ c.requires.within c.requires.legal _ _ _ c.requires.walk;
  reserved = join_within _ _ _ c.requires.within c.requires.legal _ _ _ c.requires.walk _ c.in-Joined.is;
}

pub returns-in-Split : goal.returns-in-Split
returns-in-Split c =
    on_all_ok c.spawn.result _ _ _ _
    (next_split _ _ _ c.requires.within c.requires.legal _ _ _ _ _ _ c.requires.walk c.in-Split.spawned c.in-Split.is)
    c.spawn.ensures.begun c.spawn.ensures.blocks c.spawn.ensures.edges

pub returns-in-Waits : goal.returns-in-Waits
returns-in-Waits c =
    on_ok c.arrive.result _ _
    (next_end _ _ _ c.requires.within c.requires.legal _ _ _ _ _ _ c.requires.walk c.in-Waits.is c.arrive.ensures.begun c.arrive.ensures.blocks)
    c.arrive.ensures.edges

pub returns-in_default : goal.returns-in_default
returns-in_default c =
    next_quiet _ _ _ c.requires.within c.requires.legal _ _ _ c.requires.walk
    (c.in_default.not-Split, c.in_default.not-Joined, c.in_default.not-Waits, c.in_default.not-Ended, c.in_default.not-EndedJoined)

pub returns-in-Joined : goal.returns-in-Joined
returns-in-Joined c =
    on_ok c.join.result _ _
    (next_join _ _ _ c.requires.within c.requires.legal _ _ _ _ _ _ c.requires.walk c.in-Joined.join c.in-Joined.is c.join.ensures.begun
    c.join.ensures.blocks) c.join.ensures.edges
