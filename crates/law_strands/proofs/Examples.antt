-- The worked histories are legal, and the wrong answers in them are not.
use Rattle.std.proofs.Common.{◌≡◌, ◌≢◌, inl, inr, ℕ, zero, suc, ◌+◌, ◌*◌, ◌<◌, true, false, [], ◌∷◌, length, refl, sym, ap, ◌∙◌, subst, arith}
use Rattle.model_strands.specs.Updated.{updated}
use Rattle.model_strands.specs.History.{split, joined, waits, resumed, ended, ended_joined, finished, History}
use Rattle.model_strands.specs.Strands.{reserved, running, over, status, Running, unused}
use Rattle.model_strands.specs.Blocks.{Stack, root, spawned, called, block, stack, Outstanding, IsWaitedFor}
use Rattle.model_strands.specs.Legal.{Allowed, open_split, next_split, sync_joined, sync_waits, function_call, called_return, child_return, last_return, root_return, Legal, start, then}
use Rattle.model_strands.specs.Dag.{stay, step, Reaches, IsParallel}
use Rattle.law_strands.specs.Addresses.{IsEnglishBefore, IsHebrewBefore}
use Rattle.law_strands.specs.Lists.{placed_after, english_items, hebrew_items}
use Rattle.law_strands.specs.Branches.{left, right, branch}
use Rattle.law_strands.specs.Examples.{first_spawn, waiting, waiting_sync, call_in_block, own_children, two_spawns, newest, many_spawns, WorkedHistories}
use Rattle.law_strands.proofs.Updates.{updated_at, updated_off}
use Rattle.law_strands.proofs.Law.{reach_precedes}

first_spawn_legal : Legal first_spawn
unfolding updated
first_spawn_legal = then start (open_split refl tt refl refl refl)

waiting_legal : Legal waiting
unfolding updated
waiting_legal = then first_spawn_legal (sync_waits {join = 3} {below = root} refl refl 1 (inl (refl, refl)))

waiting_sync_legal : Legal waiting_sync
unfolding updated
waiting_sync_legal = then waiting_legal (last_return {number = 1} refl refl (inl refl, (λ m o. elim o [ inl t ↦ t.0 | inr t ↦ absurd t ])))

-- the child's only way on is to begin the join
no_other_return : Allowed waiting (ended 1) → ⊥
unfolding updated
no_other_return (child_return {number = n} {join = j} run st last) =
    last (
      subst (λ z. IsWaitedFor waiting z) (join_is st) (inl refl),
      (λ m o. elim o [ inl t ↦ t.0 ∙ number_is st | inr t ↦ absurd t ]),
    )
  where
    join_is : {n j : ℕ} → spawned 1 3 ≡ spawned n j → 3 ≡ j
    join_is e = cc

    number_is : {n j : ℕ} → spawned 1 3 ≡ spawned n j → 1 ≡ n
    number_is e = cc

call_in_block_legal : Legal call_in_block
unfolding updated
call_in_block_legal =
    then (then (then first_spawn_legal (function_call refl)) (open_split refl tt refl refl refl))
    (child_return {number = 3} {join = 6} refl refl (λ t. absurd t.0))

none_outstanding : (number : ℕ) → Outstanding call_in_block number 6 → ⊥
unfolding updated
none_outstanding m o = elim o.1 [
  | inl t ↦ o.0 (ap (λ z. spawned z 6) (sym t.0))
  | inr t ↦ elim t [ inl q ↦ absurd (omega (arith, q.1)) | inr q ↦ absurd q ]
]

last_child : (number : ℕ) → Outstanding (waits 6 ∷ resumed 6 ∷ joined 5 6 ∷ call_in_block) number 3 → number ≡ 1
unfolding updated
last_child m (ne, inl t) = absurd (omega (arith, t.1))
last_child m (ne, inr (inl t)) = t.0
last_child m (ne, inr (inr t)) = absurd t

own_children_legal : Legal own_children
unfolding updated
own_children_legal =
    then (then (then (then call_in_block_legal
    (sync_joined {join = 6} {below = called 2 (block 3 root)} refl refl none_outstanding))
    (called_return {number = 2} {below = block 3 root} refl refl))
    (sync_waits {join = 3} {below = root} refl refl 1 ((λ e. absurd (two e)), inr (inl (refl, refl)))))
    (last_return {number = 1} {join = 3} refl refl (inl refl, last_child))
  where
    two : spawned 3 6 ≡ spawned 1 3 → ⊥
    two e = cc

-- a sync that waited for the caller's children would be no legal answer
no_wait_for_caller : Allowed call_in_block (waits 5) → ⊥
unfolding updated
no_wait_for_caller (sync_waits {join = j} {below = below} run st m o) = none_outstanding m (subst (Outstanding call_in_block m) (sym (join_is st)) o)
  where
    join_is : {j : ℕ} {below : Stack} → block 6 (called 2 (block 3 root)) ≡ block j below → 6 ≡ j
    join_is e = cc

two_spawns_legal : Legal two_spawns
unfolding updated
two_spawns_legal =
    then (then (then (then (then first_spawn_legal
    (child_return {number = 1} {join = 3} refl refl (λ t. absurd t.0)))
    (next_split {join = 3} {below = root} refl refl refl refl))
    (child_return {number = 3} {join = 3} refl refl (λ t. absurd t.0)))
    (sync_joined {join = 3} {below = root} refl refl (λ m o. elim o.1 [ inl t ↦ o.0 (ap (λ z. spawned z 3) (sym t.0)) | inr t ↦ elim t.1 [ inl q ↦ t.0 (ap (λ z. spawned z 3) (sym q.0)) | inr q ↦ absurd q ] ])))
    (root_return refl refl)

-- the spawner's two sides are parallel
sides_parallel : IsParallel first_spawn 1 2
unfolding updated
sides_parallel = (
  λ p. let k : false ≡ true = reach_precedes first_spawn first_spawn_legal 1 2 p in absurd (cc),
  λ p. let k : false ≡ true = reach_precedes first_spawn first_spawn_legal 2 1 p in absurd (cc),
)

child_reaches_join : Reaches waiting_sync 1 3
unfolding updated
child_reaches_join = step (inr (inl (refl, refl), inl refl)) stay

first_numbers : {c n j : ℕ} → Allowed [] (split 0 c n j true) → (c ≡ 1) × (n ≡ 2) × (j ≡ 3)
first_numbers (open_split run sy ce ne je) = (ce, ne, je)

over_not_running : over ≡ running → ⊥
over_not_running e = cc

no_second_spawn : {c n j : ℕ} → Allowed first_spawn (split 0 c n j true) → ⊥
unfolding updated
no_second_spawn (open_split run sy ce ne je) = over_not_running run

-- a return with an open block is no event
unsynced_resumed : Allowed first_spawn (resumed 2) → ⊥
unfolding updated
unsynced_resumed (called_return {number = n} {below = below} run st) = let e : block 3 root ≡ called n below = st in absurd (cc)

unsynced_ended : Allowed first_spawn (ended 2) → ⊥
unfolding updated
unsynced_ended (child_return {number = n} {join = j} run st last) = let e : block 3 root ≡ spawned n j = st in absurd (cc)

unsynced_ended_joined : (its_join : ℕ) → Allowed first_spawn (ended_joined 2 its_join) → ⊥
unfolding updated
unsynced_ended_joined j (last_return {number = n} run st last) = let e : block 3 root ≡ spawned n j = st in absurd (cc)

unsynced_finished : Allowed first_spawn (finished 2) → ⊥
unfolding updated
unsynced_finished (root_return run st) = let e : block 3 root ≡ root = st in absurd (cc)

-- a sync doesn't go on while a child is outstanding
no_early_join : (its_join : ℕ) → Allowed first_spawn (joined 2 its_join) → ⊥
unfolding updated
no_early_join j (sync_joined {below = below} run st none) = none 1 (inl (refl, join_is st))
  where
    join_is : block 3 root ≡ block j below → j ≡ 3
    join_is e = cc

join_runs : Running waiting_sync 3
unfolding updated
join_runs = refl

-- a join has the branch of its block's first spawner, and the two sides have branches of their own
join_branch : branch waiting_sync 3 ≡ branch waiting_sync 0
unfolding updated
join_branch = refl

side_branches : branch first_spawn 1 ≢ branch first_spawn 2
unfolding updated
side_branches e = let g : left 1 ≡ right 1 = e in cc

child_first : IsEnglishBefore first_spawn 1 2
unfolding updated
child_first = refl

next_first : IsHebrewBefore first_spawn 2 1
unfolding updated
next_first = refl

-- the lists grow directly behind the spawner
english_list : english_items first_spawn ≡ 0 ∷ 1 ∷ 2 ∷ 3 ∷ []
unfolding placed_after
english_list = refl

hebrew_list : hebrew_items first_spawn ≡ 0 ∷ 2 ∷ 1 ∷ 3 ∷ []
unfolding placed_after
hebrew_list = refl

two_spawns_english : english_items two_spawns ≡ 0 ∷ 1 ∷ 2 ∷ 4 ∷ 5 ∷ 3 ∷ []
unfolding placed_after
two_spawns_english = refl

two_spawns_hebrew : hebrew_items two_spawns ≡ 0 ∷ 2 ∷ 5 ∷ 4 ∷ 1 ∷ 3 ∷ []
unfolding placed_after
two_spawns_hebrew = refl

-- what is known after k + 1 spawns
record Between (h : History) (s m : ℕ) : Type 0 where
  legal : Legal h
  runs : Running h s
  stands : stack h s ≡ block 3 root
  none : (n : ℕ) → Outstanding h n 3 → ⊥
  no_sync : IsWaitedFor h 3 → ⊥
  free : unused h ≡ m
  join_waits : status h 3 ≡ reserved
  join_stands : stack h 3 ≡ root

between_next : (history : History) (strand number : ℕ) → 3 < number → Between history strand number →
    Between (ended number ∷ split strand number (1 + number) 3 false ∷ history) (1 + number) (2 + number)
between_next h s m lt b = record {
  legal = then (then b.legal (next_split b.runs b.stands (sym b.free) (ap (λ z. 1 + z) (sym b.free))))
      (child_return {number = suc (length h)} {join = 3} child_runs child_stands (λ t. b.no_sync t.0));
  runs = updated_off _ m over (1 + m) (omega arith) ∙ updated_at _ (1 + m) running (1 + m) refl;
  stands = updated_at _ (1 + m) (stack h s) (1 + m) refl ∙ b.stands;
  none = λ n o. none_at n o;
  no_sync = b.no_sync;
  free = ap (λ z. 2 + z) b.free;
  join_waits = updated_off _ m over 3 (omega arith) ∙ (updated_off _ (1 + m) running 3 (omega arith) ∙ (updated_off _ m running 3 (omega arith) ∙ (updated_off _ s over 3 three_not_s ∙ b.join_waits)));
  join_stands = updated_off _ (1 + m) _ 3 (omega arith) ∙ (updated_off _ m _ 3 (omega arith) ∙ b.join_stands);
}
  where
    three_not_s : 3 ≢ s
    three_not_s e = let g : reserved ≡ running = sym b.join_waits ∙ (ap (status h) e ∙ b.runs) in absurd (cc)

    child_runs : Running (split s m (1 + m) 3 false ∷ h) m
    child_runs = updated_off _ (1 + m) running m (omega arith) ∙ updated_at _ m running m refl

    child_stands : stack (split s m (1 + m) 3 false ∷ h) m ≡ spawned (suc (length h)) 3
    child_stands = updated_off _ (1 + m) _ m (omega arith) ∙ updated_at _ m (spawned (suc (length h)) 3) m refl

    none_at : (number : ℕ) → Outstanding (ended m ∷ split s m (1 + m) 3 false ∷ h) number 3 → ⊥
    none_at n (ne, inl t) = ne (child_stands ∙ ap (λ z. spawned z 3) (sym t.0))
    none_at n (ne, inr o) = b.none n o

between : (other_join : ℕ) → Between (many_spawns other_join) (newest other_join) (4 + 2 * other_join)
unfolding updated
between zero = record {
  legal = then first_spawn_legal (child_return {number = 1} {join = 3} refl refl (λ t. absurd t.0));
  runs = refl;
  stands = refl;
  none = λ n o. elim o.1 [ inl t ↦ o.0 (ap (λ z. spawned z 3) (sym t.0)) | inr t ↦ t ];
  no_sync = λ t. t;
  free = refl;
  join_waits = refl;
  join_stands = refl;
}
between (suc k) =
    let b = between_next (many_spawns k) (newest k) (4 + 2 * k) (omega arith) (between k) in
    let e : 1 + (4 + 2 * k) ≡ 5 + 2 * k = omega arith in
    let g : 2 + (4 + 2 * k) ≡ 4 + 2 * suc k = omega arith in
    subst (λ z. Between (many_spawns (suc k)) (5 + 2 * k) z) g
    (subst (λ z. Between (ended (4 + 2 * k) ∷ split (newest k) (4 + 2 * k) z 3 false ∷ many_spawns k) z (2 + (4 + 2 * k))) e b)

many_spawns_legal : (other_join : ℕ) → Legal (finished 3 ∷ joined (newest other_join) 3 ∷ many_spawns other_join)
many_spawns_legal k =
    let b = between k in
    then (then b.legal (sync_joined b.runs b.stands b.none))
    (root_return (updated_at _ 3 running 3 refl) b.join_stands)

pub examples_law : WorkedHistories
examples_law = record {
  first_spawn_legal = first_spawn_legal;
  first_numbers = first_numbers;
  sides_parallel = sides_parallel;
  side_branches = side_branches;
  child_first = child_first;
  next_first = next_first;
  english_list = english_list;
  hebrew_list = hebrew_list;
  no_second_spawn = no_second_spawn;
  unsynced_resumed = unsynced_resumed;
  unsynced_ended = unsynced_ended;
  unsynced_ended_joined = unsynced_ended_joined;
  unsynced_finished = unsynced_finished;
  no_early_join = no_early_join;
  waiting_sync_legal = waiting_sync_legal;
  no_other_return = no_other_return;
  join_runs = join_runs;
  child_reaches_join = child_reaches_join;
  join_branch = join_branch;
  own_children_legal = own_children_legal;
  no_wait_for_caller = no_wait_for_caller;
  two_spawns_legal = two_spawns_legal;
  two_spawns_english = two_spawns_english;
  two_spawns_hebrew = two_spawns_hebrew;
  many_spawns_legal = many_spawns_legal;
}
