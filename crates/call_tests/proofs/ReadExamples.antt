-- Two spawns and one read, as a test runs them.
use Rattle.std.proofs.Common.{◌≡◌, ◌⊎◌, inl, inr, true, false, List, [], ◌∷◌, Option, refl, subst, arith}
use Rattle.std.specs.List.{Contains}
use Rattle.std.proofs.lemmas.List.Elements.{Contains-push_cases}
use Rattle.model_strands.specs.Updated.{updated}
use Rattle.model_strands.specs.History.{split, History}
use Rattle.model_strands.specs.Strands.{Begun}
use Rattle.model_strands.specs.Blocks.{root}
use Rattle.model_strands.specs.Legal.{open_split, next_split, Legal, start, then}
use Rattle.branch_names.specs.Names.{Names, Follows, FollowsOn, IsNamed}
use Rattle.branch_names.proofs.Events.{room-follows}
use Rattle.model_accesses.specs.declared.witness.Witness.{Witness}
use Rattle.model_accesses.specs.Reads.{ReducerRead}
use Rattle.view_read_rule.specs.Reads.{Remembers, StandsOn}

-- strand 0 spawns, and then its continuation
abbrev pub first_spawn : History
first_spawn = split 0 1 2 3 true ∷ []

abbrev pub second_spawn : History
second_spawn = split 2 4 5 3 false ∷ first_spawn

pub first_spawn_legal : Legal first_spawn
unfolding updated
first_spawn_legal = then start (open_split refl tt refl refl refl)

pub second_spawn_legal : Legal second_spawn
unfolding updated
second_spawn_legal = then first_spawn_legal (next_split {join = 3} {below = root} refl refl refl refl)

pub zero_begun : Begun [] 0
unfolding updated
zero_begun = inl refl

pub next_begun : Begun first_spawn 2
unfolding updated
next_begun = inl refl

pub child_begun : Begun first_spawn 1
unfolding updated
child_begun = inl refl

pub child_begun_still : Begun second_spawn 1
unfolding updated
child_begun_still = inl refl

-- what the calls of the test ensure, one after the other
abbrev pub Reserves : Names → Names → Type 0
Reserves old new = new ≡ record old { has_room = true }

pub spawned-once : (opened reserved after_spawn : Names) → Follows opened [] → Reserves opened reserved → FollowsOn reserved after_spawn (split 0 1 2 3 true) → Follows after_spawn first_spawn
spawned-once opened reserved after_spawn follows reserves spawns = spawns [] (room-follows opened reserved [] reserves follows) first_spawn_legal

pub spawned-twice : (opened reserved after_spawn : Names) → Follows opened first_spawn → Reserves opened reserved → FollowsOn reserved after_spawn (split 2 4 5 3 false) → Follows after_spawn second_spawn
spawned-twice opened reserved after_spawn follows reserves spawns = spawns first_spawn (room-follows opened reserved first_spawn reserves follows) second_spawn_legal

-- one read was taken in
pub stands-one : (firsts : List (Option Witness)) (branches : Names) (read : ReducerRead) → Remembers firsts (read ∷ []) → IsNamed branches read.strand → StandsOn firsts branches
stands-one firsts branches read remembers named = (read ∷ [], remembers, (λ other is. go other (Contains-push_cases [] read other is)))
  where
    go : (other : ReducerRead) → Contains [] other ⊎ (read ≡ other) → IsNamed branches other.strand
    go other (inl (k, lt, at)) = absurd (omega arith)
    go other (inr e) = subst (λ (one : ReducerRead). IsNamed branches one.strand) e named
