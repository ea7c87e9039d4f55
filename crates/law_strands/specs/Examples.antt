-- Worked histories, the newest event first, and what they show.
use Rattle.std.specs.Prelude.{◌≡◌, ◌≢◌, ◌+◌, ◌*◌, ℕ, suc, zero, [], ◌∷◌, true, false}
use Rattle.model_strands.specs.History.{split, joined, waits, call, resumed, ended, ended_joined, finished, History}
use Rattle.model_strands.specs.Strands.{Running}
use Rattle.model_strands.specs.Legal.{Allowed, Legal}
use Rattle.model_strands.specs.Dag.{Reaches, IsParallel}
use Rattle.law_strands.specs.Addresses.{IsEnglishBefore, IsHebrewBefore}
use Rattle.law_strands.specs.Lists.{english_items, hebrew_items}
use Rattle.law_strands.specs.Branches.{branch}

-- the root function spawns
abbrev pub first_spawn : History
first_spawn = split 0 1 2 3 true ∷ []

-- and its sync waits
abbrev pub waiting : History
waiting = waits 2 ∷ first_spawn

-- the child's return begins the join
abbrev pub waiting_sync : History
waiting_sync = ended_joined 1 3 ∷ waiting

-- the continuation calls a function, which spawns; that child has returned
abbrev pub call_in_block : History
call_in_block = ended 4 ∷ split 2 4 5 6 true ∷ call 2 ∷ first_spawn

-- the called function's sync waits for its own child alone, and the caller's for the caller's
abbrev pub own_children : History
own_children = ended_joined 1 3 ∷ waits 6 ∷ resumed 6 ∷ joined 5 6 ∷ call_in_block

-- two spawns in one block share its join
abbrev pub two_spawns : History
two_spawns = finished 3 ∷ joined 5 3 ∷ ended 4 ∷ split 2 4 5 3 false ∷ ended 1 ∷ first_spawn

-- the newest continuation after one spawn and `more` others in one block
abbrev pub newest : ℕ → ℕ
newest zero = 2
newest (suc more) = 5 + 2 * more

-- those spawns, each by the newest continuation, and each child returned
abbrev pub many_spawns : ℕ → History
many_spawns zero = ended 1 ∷ first_spawn
many_spawns (suc more) = ended (4 + 2 * more) ∷ split (newest more) (4 + 2 * more) (5 + 2 * more) 3 false ∷ many_spawns more

-- what the worked histories show
pub record WorkedHistories : Type 0 where
  -- the first spawn makes child 1, next 2 and join 3
  pub first_spawn_legal : Legal first_spawn
  pub first_numbers : {child next join : ℕ} → Allowed [] (split 0 child next join true) → (child ≡ 1) × (next ≡ 2) × (join ≡ 3)
  -- its two sides are parallel, and their branches differ
  pub sides_parallel : IsParallel first_spawn 1 2
  pub side_branches : branch first_spawn 1 ≢ branch first_spawn 2
  -- the English order has the child first, the Hebrew one the next, and both have the join behind them
  pub child_first : IsEnglishBefore first_spawn 1 2
  pub next_first : IsHebrewBefore first_spawn 2 1
  pub english_list : english_items first_spawn ≡ 0 ∷ 1 ∷ 2 ∷ 3 ∷ []
  pub hebrew_list : hebrew_items first_spawn ≡ 0 ∷ 2 ∷ 1 ∷ 3 ∷ []
  -- a strand that has ended makes no event
  pub no_second_spawn : {child next join : ℕ} → Allowed first_spawn (split 0 child next join true) → ⊥
  -- no return with an open block is an event
  pub unsynced_resumed : Allowed first_spawn (resumed 2) → ⊥
  pub unsynced_ended : Allowed first_spawn (ended 2) → ⊥
  pub unsynced_ended_joined : (join : ℕ) → Allowed first_spawn (ended_joined 2 join) → ⊥
  pub unsynced_finished : Allowed first_spawn (finished 2) → ⊥
  -- a sync may not go on while the child is outstanding
  pub no_early_join : (join : ℕ) → Allowed first_spawn (joined 2 join) → ⊥
  -- the child for which a sync waits begins the join, which it reaches, and which has the branch of strand 0
  pub waiting_sync_legal : Legal waiting_sync
  pub no_other_return : Allowed waiting (ended 1) → ⊥
  pub join_runs : Running waiting_sync 3
  pub child_reaches_join : Reaches waiting_sync 1 3
  pub join_branch : branch waiting_sync 3 ≡ branch waiting_sync 0
  -- a called function's sync waits for its own children alone
  pub own_children_legal : Legal own_children
  pub no_wait_for_caller : Allowed call_in_block (waits 5) → ⊥
  -- spawns in one block share its join, however many there are
  pub two_spawns_legal : Legal two_spawns
  pub two_spawns_english : english_items two_spawns ≡ 0 ∷ 1 ∷ 2 ∷ 4 ∷ 5 ∷ 3 ∷ []
  pub two_spawns_hebrew : hebrew_items two_spawns ≡ 0 ∷ 2 ∷ 5 ∷ 4 ∷ 1 ∷ 3 ∷ []
  pub many_spawns_legal : (more : ℕ) → Legal (finished 3 ∷ joined (newest more) 3 ∷ many_spawns more)
