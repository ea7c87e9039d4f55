-- Two blocks, one after the other, as a test runs them.
use Rattle.std.proofs.Common.{◌≡◌, inl, inr, ℕ, true, [], ◌∷◌, refl, sym, ap, arith}
use Rattle.model_strands.specs.Updated.{updated}
use Rattle.model_strands.specs.History.{Event, split, joined, ended, History}
use Rattle.model_strands.specs.Blocks.{root, spawned}
use Rattle.model_strands.specs.Legal.{open_split, sync_joined, child_return, Legal, start, then}
use Rattle.branch_names.specs.Names.{Names, Follows, FollowsOn, Begins}
use Rattle.branch_names.proofs.Events.{room-follows, other-events}

-- strand 0 spawns, the child returns, the sync joins, and join 3 does the same
abbrev pub first_spawn : History
first_spawn = split 0 1 2 3 true ∷ []

abbrev pub first_return : History
first_return = ended 1 ∷ first_spawn

abbrev pub first_join : History
first_join = joined 2 3 ∷ first_return

abbrev pub second_spawn : History
second_spawn = split 3 4 5 6 true ∷ first_join

abbrev pub second_return : History
second_return = ended 4 ∷ second_spawn

abbrev pub second_join : History
second_join = joined 5 6 ∷ second_return

pub first_spawn_legal : Legal first_spawn
unfolding updated
first_spawn_legal = then start (open_split refl tt refl refl refl)

pub first_return_legal : Legal first_return
unfolding updated
first_return_legal = then first_spawn_legal (child_return {number = 1} {join = 3} refl refl (λ t. absurd t.0))

pub first_join_legal : Legal first_join
unfolding updated
first_join_legal =
    then first_return_legal (sync_joined {join = 3} {below = root} refl refl (λ child left. elim left.1 [ inl t ↦ left.0 (ap (λ number. spawned number 3) (sym t.0)) | inr t ↦ absurd t ]))

pub second_spawn_legal : Legal second_spawn
unfolding updated
second_spawn_legal = then first_join_legal (open_split refl tt refl refl refl)

pub second_return_legal : Legal second_return
unfolding updated
second_return_legal = then second_spawn_legal (child_return {number = 4} {join = 6} refl refl (λ t. absurd t.0))

pub second_join_legal : Legal second_join
unfolding updated
second_join_legal =
    then second_return_legal
    (sync_joined {join = 6} {below = root} refl refl
    (λ child left. elim left.1 [ inl t ↦ left.0 (ap (λ number. spawned number 6) (sym t.0)) | inr t ↦ elim t.1 [ inl older ↦ absurd (omega (arith, older.1)) | inr none ↦ absurd none ] ]))

-- what the calls of a test ensure, one after the other
abbrev pub Reserves : Names → Names → Type 0
Reserves old new = new ≡ record old { has_room = true }

abbrev pub Joins : Names → Names → ℕ → Type 0
Joins old new join = (event : Event) → Begins event join → FollowsOn old new event

pub returned-once : (opened reserved after_spawn ready : Names) → Follows opened [] → Reserves opened reserved → FollowsOn reserved after_spawn (split 0 1 2 3 true) → Reserves after_spawn ready → Follows ready first_return
returned-once opened reserved after_spawn ready follows first spawns second =
    other-events ready first_spawn (ended 1) (room-follows after_spawn ready first_spawn second (spawns [] (room-follows opened reserved [] first follows) first_spawn_legal)) tt first_return_legal

pub joined-once : (opened reserved after_spawn ready joined_now : Names) → Follows opened [] → Reserves opened reserved → FollowsOn reserved after_spawn (split 0 1 2 3 true) → Reserves after_spawn ready → Joins ready joined_now 3 →
    Follows joined_now first_join
joined-once opened reserved after_spawn ready joined_now follows first spawns second joins =
    joins (joined 2 3) refl first_return (returned-once opened reserved after_spawn ready follows first spawns second) first_join_legal

pub returned-twice : (opened reserved after_spawn ready : Names) → Follows opened first_join → Reserves opened reserved → FollowsOn reserved after_spawn (split 3 4 5 6 true) → Reserves after_spawn ready → Follows ready second_return
returned-twice opened reserved after_spawn ready follows first spawns second =
    other-events ready second_spawn (ended 4) (room-follows after_spawn ready second_spawn second (spawns first_join (room-follows opened reserved first_join first follows) second_spawn_legal)) tt second_return_legal

pub joined-twice : (opened reserved after_spawn ready joined_now : Names) → Follows opened first_join → Reserves opened reserved → FollowsOn reserved after_spawn (split 3 4 5 6 true) → Reserves after_spawn ready → Joins ready joined_now 6 →
    Follows joined_now second_join
joined-twice opened reserved after_spawn ready joined_now follows first spawns second joins =
    joins (joined 5 6) refl second_return (returned-twice opened reserved after_spawn ready follows first spawns second) second_join_legal
