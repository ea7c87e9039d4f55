-- The worked histories are judged, and the wrong omissions in them change the verdict.
use Rattle.std.proofs.Common.{◌≡◌, ◌≢◌, ◌⊎◌, inl, inr, ℕ, true, false, [], ◌∷◌, refl, sym, ap, ◌∙◌, subst, lit<}
use Rattle.std.proofs.lemmas.List.Elements.{All-from_recursion}
use Rattle.model_accesses.specs.declared.kind.Kind.{Kind}
use Rattle.model_accesses.specs.declared.kind.Kind.TheVariants as kinds
use Rattle.model_accesses.specs.declared.kind.Rule.TheVariants.{Free, Race}
use Rattle.model_accesses.specs.declared.request.Act.TheVariants.{Spawn, Sync, Return, Read, Write}
use Rattle.model_strands.specs.Updated.{updated}
use Rattle.model_strands.specs.Address.{Word, child, next, join}
use Rattle.model_strands.specs.Strands.{Status, reserved, running, over}
use Rattle.model_strands.specs.Blocks.{root, spawned as in_spawned, Outstanding}
use Rattle.model_strands.specs.Legal.{open_split, next_split, sync_joined, child_return}
use Rattle.model_strands.specs.Dag.{stay, step, Reaches}
use Rattle.model_strands.specs.Addresses.{address}
use Rattle.law_strands.proofs.Updates.{updated_case}
use Rattle.law_strands.proofs.Places.{running_not_reserved, over_not_reserved, reserved_not_absent}
use Rattle.model_histories.specs.declared.answer.Answer.TheVariants.{Split, Joined, Ended, Granted, Value}
use Rattle.model_histories.specs.declared.answer.Entry.{Entry}
use Rattle.model_histories.specs.Extensions.{IsCleanAnswer}
use Rattle.model_histories.specs.Entries.{control_part}
use Rattle.model_accesses.specs.declared.request.Request.{Request}
use Rattle.model_races.specs.Judged.{IsJudged}
use Rattle.law_traces.specs.Locations.{Accesses, HasRefusal}
use Rattle.law_traces.specs.Sets.{HaveSameAccesses}
use Rattle.law_traces.specs.Omissions.{LeavesOut, nothing, keeps, omits, IsRepeated, IsReadByWriter, IsOfCell, IsOfOther}
use Rattle.law_traces.specs.Epochs.{HasNoOpenBlock}
use Rattle.law_traces.specs.CleanTraces.{SpeaksForOrders}
use Rattle.law_traces.specs.Spawns.{GoesThrough, IsSpawned, IsEmpty, LeavesOutSpawn}
use Rattle.law_traces.specs.Spawns as without_spawn
use Rattle.law_traces.specs.Examples.{two_cells, asked, refused_by, spawned, both_write, one_writes, writes_twice, reads_and_writes, only_writes, only_reads, writes_another, both_write_both, both_read_another, two_spawns, spawn_behind, both_children_write, one_child_writes, synced, returned, WorkedHistories}
use Rattle.law_traces.proofs.Histories.{legal_part, extends_self}
use Rattle.law_traces.proofs.Sets.{location_here}
use Rattle.law_traces.proofs.CleanTraces.{clean_trace_law}
use Rattle.law_traces.proofs.Calls.{both_calls_write_judged, second_begins, second_inside, first_outside, second_moved, second_refused, called_again_judged, called_again_refused, second_left_out_moved, syncs_between_judged, same_first, its_first, after_sync, before_sync, syncs_between_refused, syncs_between_clean, not_alike, only_syncs_judged, only_syncs_refused, synced_left_out, join_none}
use Rattle.law_traces.proofs.PairExamples.{write_read_write_judged, write_read_write_refused, first_near, last_near, writes_not_near, near_as_cells_judged, first_as_cell, last_as_cell, its_pairs, near_as_cells_clean, near_as_cells_refused, with_first_judged, with_first_read, with_first_last, with_first_clean, not_its_pairs, write_then_reads_judged, write_then_reads_refused, across_near, neighbours_judged, neighbours_clean, not_by_neighbours, second_as_first}
use Rattle.law_traces.proofs.Judging.{write_granted, write_refused, read_granted, read_refused, spawns, returns, syncs, parallel_in, none_refused, each_access, another_cell, nothing_judged, cell_of, kind_of, no_access_of_spawn, no_access_of_sync, no_access_of_return}

free_no_race : Free ≡ Race → ⊥
free_no_race e = absurd (cc)

-- ---- two strands, by one spawn

spawned_judged : IsJudged two_cells spawned
unfolding updated
spawned_judged = spawns [] nothing_judged 0 refl (record { child = 1; next = 2; join = 3; first = true }) (open_split refl tt refl refl refl)

child_writes_judged : IsJudged two_cells (asked 1 (Write 0 1) Granted ∷ spawned)
unfolding updated
child_writes_judged = write_granted spawned spawned_judged 1 refl 0 1 (lit< tt) tt

both_write_judged : IsJudged two_cells both_write
unfolding updated
both_write_judged =
    write_refused (asked 1 (Write 0 1) Granted ∷ spawned) child_writes_judged 2 refl 0 2 (record { entry = 2; strand = 1; kind = kinds.Write }) (lit< tt)
    ((0, lit< tt, refl), refl, refl, parallel_in (asked 1 (Write 0 1) Granted ∷ spawned) child_writes_judged 1 2 (inl refl) (inl refl) refl)

both_write_refused : HasRefusal both_write 0
both_write_refused = (asked 2 (Write 0 2) (refused_by 2 1 kinds.Write), kinds.Write, (0, lit< tt, refl), refl, tt)

one_writes_judged : IsJudged two_cells one_writes
unfolding updated
one_writes_judged = write_granted spawned spawned_judged 2 refl 0 2 (lit< tt) tt

one_writes_clean : HasRefusal one_writes 0 → ⊥
one_writes_clean = none_refused 0 one_writes ((λ k q r. r), ((λ k q r. r), tt))

one_writes_speaks : SpeaksForOrders two_cells one_writes
one_writes_speaks =
    clean_trace_law two_cells one_writes one_writes_judged (All-from_recursion (λ (entry : Entry). IsCleanAnswer entry.answer) one_writes (tt, (tt, tt)))

both_write_speaks : SpeaksForOrders two_cells both_write → ⊥
both_write_speaks speaks =
    speaks.race_free.cells (control_part both_write) (extends_self (control_part both_write)) (legal_part two_cells both_write both_write_judged.legal) 0
    ((location_here two_cells both_write both_write_judged 0).0 both_write_refused)

-- an access of cell 0 is left out
spawned_kept : {May : Request → Type 0} → LeavesOut May spawned spawned
spawned_kept = keeps nothing (refl, refl)

write_left_out : LeavesOut (IsOfCell 0) both_write one_writes
write_left_out = keeps (omits spawned_kept (_, refl) (kinds.Write, refl)) (refl, refl)

-- ---- repeated accesses

writes_twice_judged : IsJudged two_cells writes_twice
unfolding updated
writes_twice_judged =
    let twice = write_granted (asked 1 (Write 0 1) Granted ∷ spawned) child_writes_judged 1 refl 0 3 (lit< tt) ((λ at rule p. p.0 stay), tt) in
    write_refused (asked 1 (Write 0 3) Granted ∷ asked 1 (Write 0 1) Granted ∷ spawned) twice 2 refl 0 2 (record { entry = 2; strand = 1; kind = kinds.Write }) (lit< tt)
    ((0, lit< tt, refl), refl, refl, parallel_in (asked 1 (Write 0 3) Granted ∷ asked 1 (Write 0 1) Granted ∷ spawned) twice 1 2 (inl refl) (inl refl) refl)

second_left_out : LeavesOut (IsRepeated both_write) writes_twice both_write
second_left_out = keeps (omits (keeps spawned_kept (refl, refl)) (_, refl) (kinds.Write, 0, refl, (asked 1 (Write 0 1) Granted, (1, lit< tt, refl), refl, refl))) (refl, refl)

-- ---- reads beside writes

child_reads_judged : IsJudged two_cells (asked 1 (Read 0) (Value 0) ∷ spawned)
unfolding updated
child_reads_judged = read_granted spawned spawned_judged 1 refl 0 0 (lit< tt) tt refl

reads_and_writes_judged : IsJudged two_cells reads_and_writes
unfolding updated
reads_and_writes_judged =
    let both = write_granted (asked 1 (Read 0) (Value 0) ∷ spawned) child_reads_judged 1 refl 0 1 (lit< tt) ((λ at rule p. p.0 stay), tt) in
    read_refused (asked 1 (Write 0 1) Granted ∷ asked 1 (Read 0) (Value 0) ∷ spawned) both 2 refl 0 (record { entry = 3; strand = 1; kind = kinds.Write }) (lit< tt)
    ((1, lit< tt, refl), refl, refl, parallel_in (asked 1 (Write 0 1) Granted ∷ asked 1 (Read 0) (Value 0) ∷ spawned) both 1 2 (inl refl) (inl refl) refl)

reads_and_writes_refused : HasRefusal reads_and_writes 0
reads_and_writes_refused = (asked 2 (Read 0) (refused_by 3 1 kinds.Write), kinds.Read, (0, lit< tt, refl), refl, tt)

only_writes_judged : IsJudged two_cells only_writes
unfolding updated
only_writes_judged =
    read_refused (asked 1 (Write 0 1) Granted ∷ spawned) child_writes_judged 2 refl 0 (record { entry = 2; strand = 1; kind = kinds.Write }) (lit< tt)
    ((0, lit< tt, refl), refl, refl, parallel_in (asked 1 (Write 0 1) Granted ∷ spawned) child_writes_judged 1 2 (inl refl) (inl refl) refl)

read_left_out : LeavesOut (IsReadByWriter only_writes) reads_and_writes only_writes
read_left_out = keeps (keeps (omits spawned_kept (_, refl) (0, refl, (asked 1 (Write 0 1) Granted, (1, lit< tt, refl), refl, refl))) (refl, refl)) (refl, refl)

only_reads_judged : IsJudged two_cells only_reads
unfolding updated
only_reads_judged =
    read_granted (asked 1 (Read 0) (Value 0) ∷ spawned) child_reads_judged 2 refl 0 0 (lit< tt) ((λ at rule p. free_no_race rule), tt) refl

only_reads_clean : HasRefusal only_reads 0 → ⊥
only_reads_clean = none_refused 0 only_reads ((λ k q r. r), ((λ k q r. r), ((λ k q r. r), tt)))

only_reads_left_out : LeavesOut (IsOfCell 0) reads_and_writes only_reads
only_reads_left_out = keeps (omits (keeps spawned_kept (refl, refl)) (_, refl) (kinds.Write, refl)) (refl, refl)

-- ---- other cells

writes_another_judged : IsJudged two_cells writes_another
unfolding updated
writes_another_judged =
    let first = write_granted spawned spawned_judged 1 refl 1 7 (lit< tt) tt in
    let both = write_granted (asked 1 (Write 1 7) Granted ∷ spawned) first 1 refl 0 1 (lit< tt) ((λ at rule p. p.0 stay), tt) in
    write_refused (asked 1 (Write 0 1) Granted ∷ asked 1 (Write 1 7) Granted ∷ spawned) both 2 refl 0 2 (record { entry = 3; strand = 1; kind = kinds.Write }) (lit< tt)
    ((1, lit< tt, refl), refl, refl, parallel_in (asked 1 (Write 0 1) Granted ∷ asked 1 (Write 1 7) Granted ∷ spawned) both 1 2 (inl refl) (inl refl) refl)

another_left_out : LeavesOut (IsOfOther 0) writes_another both_write
another_left_out = keeps (keeps (omits spawned_kept (_, refl) (λ k q. another_cell (cell_of q))) (refl, refl)) (refl, refl)

-- ---- equal cells

both_write_both_judged : IsJudged two_cells both_write_both
unfolding updated
both_write_both_judged =
    let once = asked 1 (Write 0 1) Granted ∷ spawned in
    let twice = asked 1 (Write 1 1) Granted ∷ once in
    let second = write_granted once child_writes_judged 1 refl 1 1 (lit< tt) ((λ at rule p. p.0 stay), tt) in
    let third = write_refused twice second 2 refl 0 2 (record { entry = 2; strand = 1; kind = kinds.Write }) (lit< tt)
    ((0, lit< tt, refl), refl, refl, parallel_in twice second 1 2 (inl refl) (inl refl) refl) in
    write_refused (asked 2 (Write 0 2) (refused_by 2 1 kinds.Write) ∷ twice) third 2 refl 1 2 (record { entry = 3; strand = 1; kind = kinds.Write }) (lit< tt)
    ((1, lit< tt, refl), refl, refl, parallel_in (asked 2 (Write 0 2) (refused_by 2 1 kinds.Write) ∷ twice) third 1 2 (inl refl) (inl refl) refl)

-- the accesses of either cell are the writes of strands 1 and 2
abbrev IsWriter : ℕ → Kind → Type 0
IsWriter strand kind = (kind ≡ kinds.Write) × ((strand ≡ 1) ⊎ (strand ≡ 2))

writers : (cell : ℕ) (strand : ℕ) (kind : Kind) → Accesses both_write_both strand kind cell → IsWriter strand kind
writers c = each_access IsWriter c both_write_both (
  (λ k q. (kind_of q, inr refl)),
  ((λ k q. (kind_of q, inr refl)), ((λ k q. (kind_of q, inl refl)), ((λ k q. (kind_of q, inl refl)), ((λ k q. absurd (no_access_of_spawn q)), tt)))),
)

writes_of : (cell : ℕ) → Accesses both_write_both 1 kinds.Write cell → Accesses both_write_both 2 kinds.Write cell → (strand : ℕ) (kind : Kind) →
    IsWriter strand kind → Accesses both_write_both strand kind cell
writes_of c one two s k (is, inl at) = rw (is, at) one
writes_of c one two s k (is, inr at) = rw (is, at) two

first_cell : (strand : ℕ) (kind : Kind) → IsWriter strand kind → Accesses both_write_both strand kind 0
first_cell = writes_of 0
    (asked 1 (Write 0 1) Granted, (3, lit< tt, refl), refl, refl)
    (asked 2 (Write 0 2) (refused_by 2 1 kinds.Write), (1, lit< tt, refl), refl, refl)

second_cell : (strand : ℕ) (kind : Kind) → IsWriter strand kind → Accesses both_write_both strand kind 1
second_cell = writes_of 1
    (asked 1 (Write 1 1) Granted, (2, lit< tt, refl), refl, refl)
    (asked 2 (Write 1 2) (refused_by 3 1 kinds.Write), (0, lit< tt, refl), refl, refl)

same_accesses : HaveSameAccesses both_write_both 0 1
same_accesses s k = ((λ x. second_cell s k (writers 0 s k x)), (λ x. first_cell s k (writers 1 s k x)))

cell_left_out : LeavesOut (IsOfCell 1) both_write_both both_write
cell_left_out = omits (keeps (omits (keeps spawned_kept (refl, refl)) (_, refl) (kinds.Write, refl)) (refl, refl)) (_, refl) (kinds.Write, refl)

both_read_another_judged : IsJudged two_cells both_read_another
unfolding updated
both_read_another_judged =
    let once = asked 1 (Write 0 1) Granted ∷ spawned in
    let twice = asked 1 (Read 1) (Value 0) ∷ once in
    let second = read_granted once child_writes_judged 1 refl 1 0 (lit< tt) ((λ at rule p. p.0 stay), tt) refl in
    let third = write_refused twice second 2 refl 0 2 (record { entry = 2; strand = 1; kind = kinds.Write }) (lit< tt)
    ((0, lit< tt, refl), refl, refl, parallel_in twice second 1 2 (inl refl) (inl refl) refl) in
    read_granted (asked 2 (Write 0 2) (refused_by 2 1 kinds.Write) ∷ twice) third 2 refl 1 0 (lit< tt)
    ((λ at rule p. another_cell (sym at)), ((λ at rule p. free_no_race rule), tt)) refl

both_read_another_refused : HasRefusal both_read_another 0
both_read_another_refused = (asked 2 (Write 0 2) (refused_by 2 1 kinds.Write), kinds.Write, (1, lit< tt, refl), refl, tt)

both_read_another_clean : HasRefusal both_read_another 1 → ⊥
both_read_another_clean =
    none_refused 1 both_read_another ((λ k q r. r), ((λ k q r. another_cell (sym (cell_of q))), ((λ k q r. r), ((λ k q r. r), ((λ k q r. r), tt)))))

-- ---- spawns

returned_judged_so : IsJudged two_cells (asked 1 Return Ended ∷ spawned)
unfolding updated
returned_judged_so = returns spawned spawned_judged 1 refl (child_return {number = 1} {join = 3} refl refl (λ t. absurd t.0))

second_spawn_judged : IsJudged two_cells (asked 2 Spawn (Split (record { child = 4; next = 5; join = 3; first = false })) ∷ asked 1 Return Ended ∷ spawned)
unfolding updated
second_spawn_judged =
    spawns (asked 1 Return Ended ∷ spawned) returned_judged_so 2 refl (record { child = 4; next = 5; join = 3; first = false })
    (next_split {join = 3} {below = root} refl refl refl refl)

two_spawns_judged : IsJudged two_cells two_spawns
unfolding updated
two_spawns_judged =
    let before = asked 2 Spawn (Split (record { child = 4; next = 5; join = 3; first = false })) ∷ asked 1 Return Ended ∷ spawned in
    let first = write_granted before second_spawn_judged 4 refl 0 1 (lit< tt) tt in
    write_refused (asked 4 (Write 0 1) Granted ∷ before) first 5 refl 0 2 (record { entry = 4; strand = 4; kind = kinds.Write }) (lit< tt)
    ((0, lit< tt, refl), refl, refl, parallel_in (asked 4 (Write 0 1) Granted ∷ before) first 4 5 (inl refl) (inl refl) refl)

two_spawns_refused : HasRefusal two_spawns 0
two_spawns_refused = (asked 5 (Write 0 2) (refused_by 4 4 kinds.Write), kinds.Write, (0, lit< tt, refl), refl, tt)

-- the accesses are those of strands 4 and 5, which are not the first child's
child_apart : IsSpawned [] (next ∷ child ∷ []) → ⊥
child_apart p = let e = p.1 in cc

next_apart : IsSpawned [] (next ∷ next ∷ []) → ⊥
next_apart p = let e = p.1 in cc

two_spawns_empty : IsEmpty two_spawns []
unfolding updated
two_spawns_empty a k c (s, at, x) =
    subst (λ z. IsSpawned [] z → ⊥) at (each_access (λ strand kind. IsSpawned [] (address (control_part two_spawns) strand) → ⊥) c two_spawns (
      (λ m q. next_apart),
      ((λ m q. child_apart), ((λ m q. absurd (no_access_of_spawn q)), ((λ m q. absurd (no_access_of_return q)), ((λ m q. absurd (no_access_of_spawn q)), tt)))),
    ) s k x)

two_spawns_through : GoesThrough (control_part two_spawns) [] 1
unfolding updated
two_spawns_through = inr (inl (2, 0, refl, refl, inl refl))

both_children_through : GoesThrough (control_part both_children_write) [] 1
unfolding updated
both_children_through = inr (inl (2, 0, refl, refl, inl refl))

spawn_left_out : LeavesOutSpawn [] 1 two_spawns both_write
unfolding updated
spawn_left_out =
    without_spawn.keeps (without_spawn.keeps (without_spawn.keeps (without_spawn.omits (without_spawn.omits without_spawn.nothing refl) refl)
    refl refl) refl refl) refl refl

synced_alone : IsJudged two_cells (asked 2 Sync (Joined 3) ∷ asked 1 Return Ended ∷ spawned)
unfolding updated
synced_alone = syncs (asked 1 Return Ended ∷ spawned) returned_judged_so 2 refl 3
    (sync_joined {join = 3} {below = root} refl refl (λ m o. elim o.1 [ inl t ↦ o.0 (ap (λ z. in_spawned z 3) (sym t.0)) | inr t ↦ absurd t ]))

spawned_behind : IsJudged two_cells (asked 3 Spawn (Split (record { child = 4; next = 5; join = 6; first = true })) ∷ asked 2 Sync (Joined 3) ∷ asked 1 Return Ended ∷ spawned)
unfolding updated
spawned_behind = spawns (asked 2 Sync (Joined 3) ∷ asked 1 Return Ended ∷ spawned) synced_alone 3 refl (record { child = 4; next = 5; join = 6; first = true })
    (open_split refl tt refl refl refl)

spawn_behind_judged : IsJudged two_cells spawn_behind
unfolding updated
spawn_behind_judged =
    let before = asked 3 Spawn (Split (record { child = 4; next = 5; join = 6; first = true })) ∷ asked 2 Sync (Joined 3) ∷ asked 1 Return Ended ∷ spawned in
    let first = write_granted before spawned_behind 4 refl 0 1 (lit< tt) tt in
    write_refused (asked 4 (Write 0 1) Granted ∷ before) first 5 refl 0 2 (record { entry = 5; strand = 4; kind = kinds.Write }) (lit< tt)
    ((0, lit< tt, refl), refl, refl, parallel_in (asked 4 (Write 0 1) Granted ∷ before) first 4 5 (inl refl) (inl refl) refl)

spawn_behind_refused : HasRefusal spawn_behind 0
spawn_behind_refused = (asked 5 (Write 0 2) (refused_by 5 4 kinds.Write), kinds.Write, (0, lit< tt, refl), refl, tt)

joined_apart : (word : Word) → IsSpawned [] (join ∷ word ∷ []) → ⊥
joined_apart w p = let e = p.1 in cc

spawn_behind_empty : IsEmpty spawn_behind []
unfolding updated
spawn_behind_empty a k c (s, at, x) =
    subst (λ z. IsSpawned [] z → ⊥) at (each_access (λ strand kind. IsSpawned [] (address (control_part spawn_behind) strand) → ⊥) c spawn_behind (
      (λ m q. joined_apart next),
      ((λ m q. joined_apart child), ((λ m q. absurd (no_access_of_spawn q)), ((λ m q. absurd (no_access_of_sync q)), ((λ m q. absurd (no_access_of_return q)), ((λ m q. absurd (no_access_of_spawn q)), tt))))),
    ) s k x)

spawn_behind_through : GoesThrough (control_part spawn_behind) [] 0
unfolding updated
spawn_behind_through = inl (2, 3, refl, inl (refl, refl))

sync_left_out : LeavesOutSpawn [] 0 spawn_behind both_write
unfolding updated
sync_left_out =
    without_spawn.keeps (without_spawn.keeps (without_spawn.keeps (without_spawn.omits (without_spawn.omits (without_spawn.omits without_spawn.nothing refl) refl) refl)
    refl refl) refl refl) refl refl

spawned_again : IsJudged two_cells (asked 2 Spawn (Split (record { child = 4; next = 5; join = 3; first = false })) ∷ spawned)
unfolding updated
spawned_again = spawns spawned spawned_judged 2 refl (record { child = 4; next = 5; join = 3; first = false }) (next_split {join = 3} {below = root} refl refl refl refl)

both_children_write_judged : IsJudged two_cells both_children_write
unfolding updated
both_children_write_judged =
    let before = asked 2 Spawn (Split (record { child = 4; next = 5; join = 3; first = false })) ∷ spawned in
    let first = write_granted before spawned_again 1 refl 0 1 (lit< tt) tt in
    write_refused (asked 1 (Write 0 1) Granted ∷ before) first 4 refl 0 2 (record { entry = 3; strand = 1; kind = kinds.Write }) (lit< tt)
    ((0, lit< tt, refl), refl, refl, parallel_in (asked 1 (Write 0 1) Granted ∷ before) first 1 4 (inl refl) (inl refl) refl)

both_children_write_refused : HasRefusal both_children_write 0
both_children_write_refused = (asked 4 (Write 0 2) (refused_by 3 1 kinds.Write), kinds.Write, (0, lit< tt, refl), refl, tt)

one_child_writes_judged : IsJudged two_cells one_child_writes
unfolding updated
one_child_writes_judged = write_granted (asked 1 (Write 0 1) Granted ∷ spawned) child_writes_judged 1 refl 0 2 (lit< tt) ((λ at rule p. p.0 stay), tt)

one_child_writes_clean : HasRefusal one_child_writes 0 → ⊥
one_child_writes_clean = none_refused 0 one_child_writes ((λ k q r. r), ((λ k q r. r), ((λ k q r. r), tt)))

child_left_out : LeavesOutSpawn [] 1 both_children_write one_child_writes
unfolding updated
child_left_out =
    without_spawn.keeps (without_spawn.keeps (without_spawn.keeps (without_spawn.omits without_spawn.nothing refl)
    refl refl) refl refl) refl refl

-- ---- epochs

-- by each number that a status was given to
synced_closed : HasNoOpenBlock (control_part synced)
synced_closed j =
    at_number _ 3 running j (λ at e. running_not_reserved refl e) (λ off. at_number _ 2 over j (λ at e. over_not_reserved refl e) (λ off_2. at_number _ 1 over j (λ at e. over_not_reserved refl e)
    (λ off_1. at_number _ 3 reserved j (λ at e. absurd (off at)) (λ off_3. at_number _ 2 running j (λ at e. running_not_reserved refl e)
    (λ off_2. at_number _ 1 running j (λ at e. running_not_reserved refl e) (λ off_1. at_number _ 0 over j (λ at e. over_not_reserved refl e)
    (λ off_0. at_number _ 0 running j (λ at e. running_not_reserved refl e) (λ off_0 e. reserved_not_absent e refl))))))))
  where
    at_number : (statuses : ℕ → Status) (number : ℕ) (value : Status) (one : ℕ) → (one ≡ number → value ≡ reserved → ⊥) → (one ≢ number → statuses one ≡ reserved → ⊥) →
        updated statuses number value one ≡ reserved → ⊥
    at_number = updated_case (λ t. t ≡ reserved → ⊥)

both_write_returned : IsJudged two_cells (asked 1 Return Ended ∷ both_write)
unfolding updated
both_write_returned = returns both_write both_write_judged 1 refl (child_return {number = 1} {join = 3} refl refl (λ t. absurd t.0))

synced_before : IsJudged two_cells synced
unfolding updated
synced_before = syncs (asked 1 Return Ended ∷ both_write) both_write_returned 2 refl 3
    (sync_joined {join = 3} {below = root} refl refl (λ m o. elim o.1 [ inl t ↦ o.0 (ap (λ z. in_spawned z 3) (sym t.0)) | inr t ↦ absurd t ]))

child_reaches_join : Reaches (control_part synced) 1 3
unfolding updated
child_reaches_join = step (inr (inr (inl (refl, refl)), inl refl)) stay

synced_judged : IsJudged two_cells (asked 3 (Write 0 4) Granted ∷ synced)
unfolding updated
synced_judged = write_granted synced synced_before 3 refl 0 4 (lit< tt) ((λ at rule p. p.0 child_reaches_join), tt)

synced_refused : HasRefusal (asked 3 (Write 0 4) Granted ∷ synced) 0
synced_refused = (asked 2 (Write 0 2) (refused_by 2 1 kinds.Write), kinds.Write, (3, lit< tt, refl), refl, tt)

synced_moved_judged : IsJudged two_cells (asked 3 (Write 1 4) Granted ∷ synced)
unfolding updated
synced_moved_judged = write_granted synced synced_before 3 refl 1 4 (lit< tt) ((λ at rule p. another_cell (sym at)), tt)

returned_none : (number join : ℕ) → Outstanding (control_part returned) number join → ⊥
unfolding updated
returned_none m j (differ, inl t) = differ (ap (λ z. in_spawned z 3) (sym t.0) ∙ ap (in_spawned m) (sym t.1))
returned_none m j (differ, inr t) = absurd t

returned_open : HasNoOpenBlock (control_part returned) → ⊥
unfolding updated
returned_open none = none 3 refl

returned_before : IsJudged two_cells returned
unfolding updated
returned_before = returns (asked 1 (Write 0 1) Granted ∷ spawned) child_writes_judged 1 refl (child_return {number = 1} {join = 3} refl refl (λ t. absurd t.0))

returned_judged : IsJudged two_cells (asked 2 (Write 0 4) (refused_by 2 1 kinds.Write) ∷ returned)
unfolding updated
returned_judged = write_refused returned returned_before 2 refl 0 4 (record { entry = 2; strand = 1; kind = kinds.Write }) (lit< tt)
    ((0, lit< tt, refl), refl, refl, parallel_in returned returned_before 1 2 (inr refl) (inl refl) refl)

returned_refused : HasRefusal (asked 2 (Write 0 4) (refused_by 2 1 kinds.Write) ∷ returned) 0
returned_refused = (asked 2 (Write 0 4) (refused_by 2 1 kinds.Write), kinds.Write, (0, lit< tt, refl), refl, tt)

returned_moved_judged : IsJudged two_cells (asked 2 (Write 1 4) Granted ∷ returned)
unfolding updated
returned_moved_judged = write_granted returned returned_before 2 refl 1 4 (lit< tt) ((λ at rule p. another_cell (sym at)), tt)

returned_moved_clean : (cell : ℕ) → HasRefusal (asked 2 (Write 1 4) Granted ∷ returned) cell → ⊥
returned_moved_clean c = none_refused c (asked 2 (Write 1 4) Granted ∷ returned) ((λ k q r. r), ((λ k q r. r), ((λ k q r. r), ((λ k q r. r), tt))))

pub examples_law : WorkedHistories
examples_law = record {
  both_write_judged = both_write_judged;
  both_write_refused = both_write_refused;
  one_writes_judged = one_writes_judged;
  one_writes_clean = one_writes_clean;
  write_left_out = write_left_out;
  one_writes_speaks = one_writes_speaks;
  both_write_speaks = both_write_speaks;
  writes_twice_judged = writes_twice_judged;
  second_left_out = second_left_out;
  reads_and_writes_judged = reads_and_writes_judged;
  reads_and_writes_refused = reads_and_writes_refused;
  only_writes_judged = only_writes_judged;
  read_left_out = read_left_out;
  only_reads_judged = only_reads_judged;
  only_reads_clean = only_reads_clean;
  only_reads_left_out = only_reads_left_out;
  writes_another_judged = writes_another_judged;
  another_left_out = another_left_out;
  both_write_both_judged = both_write_both_judged;
  same_accesses = same_accesses;
  cell_left_out = cell_left_out;
  both_read_another_judged = both_read_another_judged;
  both_read_another_refused = both_read_another_refused;
  both_read_another_clean = both_read_another_clean;
  both_calls_write_judged = both_calls_write_judged;
  second_begins = second_begins;
  second_inside = second_inside;
  first_outside = first_outside;
  second_moved = second_moved;
  second_refused = second_refused;
  called_again_judged = called_again_judged;
  called_again_refused = called_again_refused;
  second_left_out_moved = second_left_out_moved;
  syncs_between_judged = syncs_between_judged;
  same_first = same_first;
  its_first = its_first;
  after_sync = after_sync;
  before_sync = before_sync;
  syncs_between_refused = syncs_between_refused;
  syncs_between_clean = syncs_between_clean;
  not_alike = not_alike;
  only_syncs_judged = only_syncs_judged;
  only_syncs_refused = only_syncs_refused;
  synced_left_out = synced_left_out;
  same_behind = λ rest kind. ((λ x. absurd (join_none rest kind 0 x)), (λ x. absurd (join_none rest kind 1 x)));
  write_read_write_judged = write_read_write_judged;
  write_read_write_refused = write_read_write_refused;
  first_near = first_near;
  last_near = last_near;
  writes_not_near = writes_not_near;
  near_as_cells_judged = near_as_cells_judged;
  first_as_cell = first_as_cell;
  last_as_cell = last_as_cell;
  its_pairs = its_pairs;
  near_as_cells_clean = near_as_cells_clean;
  near_as_cells_refused = near_as_cells_refused;
  with_first_judged = with_first_judged;
  with_first_read = with_first_read;
  with_first_last = with_first_last;
  with_first_clean = with_first_clean;
  not_its_pairs = not_its_pairs;
  write_then_reads_judged = write_then_reads_judged;
  write_then_reads_refused = write_then_reads_refused;
  across_near = across_near;
  neighbours_judged = neighbours_judged;
  neighbours_clean = neighbours_clean;
  not_by_neighbours = not_by_neighbours;
  second_as_first = second_as_first;
  two_spawns_judged = two_spawns_judged;
  two_spawns_refused = two_spawns_refused;
  two_spawns_empty = two_spawns_empty;
  two_spawns_through = two_spawns_through;
  spawn_left_out = spawn_left_out;
  spawn_behind_judged = spawn_behind_judged;
  spawn_behind_refused = spawn_behind_refused;
  spawn_behind_empty = spawn_behind_empty;
  spawn_behind_through = spawn_behind_through;
  sync_left_out = sync_left_out;
  both_children_write_judged = both_children_write_judged;
  both_children_write_refused = both_children_write_refused;
  both_children_through = both_children_through;
  one_child_writes_judged = one_child_writes_judged;
  one_child_writes_clean = one_child_writes_clean;
  child_left_out = child_left_out;
  synced_closed = synced_closed;
  synced_judged = synced_judged;
  synced_refused = synced_refused;
  synced_moved_judged = synced_moved_judged;
  synced_moves = (refl, refl, tt);
  synced_same = ((refl, refl, (refl, refl, (refl, refl, (refl, refl, (refl, refl, tt))))));
  returned_none = returned_none;
  returned_open = returned_open;
  returned_judged = returned_judged;
  returned_refused = returned_refused;
  returned_moved_judged = returned_moved_judged;
  returned_moves = (refl, refl, tt);
  returned_moved_clean = returned_moved_clean;
}
