-- Worked histories, the newest entry first: each omission beside a wrong one that changes the verdict.
use Rattle.std.specs.Prelude.{◌≡◌, ◌↔◌, ℕ, true, false, [], ◌∷◌, ◌++◌}
use Rattle.model_accesses.specs.declared.kind.Kind.{Kind}
use Rattle.model_accesses.specs.declared.kind.Kind.TheVariants as kinds
use Rattle.model_accesses.specs.declared.kind.Rule.TheVariants.{Race}
use Rattle.model_accesses.specs.declared.request.Act.{Act}
use Rattle.model_accesses.specs.declared.request.Act.TheVariants.{Spawn, Sync, Call, Return, Read, Write}
use Rattle.model_strands.specs.Address.{Address, child, next, join}
use Rattle.model_strands.specs.Blocks.{Outstanding}
use Rattle.model_histories.specs.declared.answer.Answer.{Answer}
use Rattle.model_histories.specs.declared.answer.Answer.TheVariants.{Split, Same, Joined, Resumed, Ended, Granted, Value, Refused}
use Rattle.model_histories.specs.declared.answer.Entry.{Entry}
use Rattle.model_histories.specs.Entries.{Entries, control_part}
use Rattle.model_histories.specs.Shapes.{Shape}
use Rattle.model_races.specs.Judged.{IsJudged}
use Rattle.law_traces.specs.Locations.{HasRefusal}
use Rattle.law_traces.specs.Sets.{AccessesAt, HaveSameAccesses}
use Rattle.law_traces.specs.Moves.{IsMoved, IsLike, IsOfOneLeftOut}
use Rattle.law_traces.specs.Functions.{begins_at, IsAskedInside}
use Rattle.law_traces.specs.Pairs.{IsNear, StandsForPair, HasItsPairs, deed, deed_of}
use Rattle.law_traces.specs.Omissions.{LeavesOut, IsRepeated, IsReadByWriter, IsOfCell, IsOfOther}
use Rattle.law_traces.specs.Epochs.{HasNoOpenBlock, renumbered, moved, AskChanged, unchanged}
use Rattle.law_traces.specs.CleanTraces.{SpeaksForOrders}
use Rattle.law_traces.specs.Spawns.{GoesThrough, IsEmpty, LeavesOutSpawn}

abbrev pub two_cells : Shape
two_cells = record { cells = 2; monoids = [] }

-- the strand's act on line 1 and its answer
abbrev pub asked : ℕ → Act → Answer → Entry
asked strand act answer = record { request = record { strand = strand; act = act; line = 1 }; answer = answer }

-- it races with the access of that entry, strand and kind
abbrev pub refused_by : ℕ → ℕ → Kind → Answer
refused_by entry strand kind = Refused Race (record { entry = entry; strand = strand; kind = kind })

-- the root function spawns the child 1, and goes on as strand 2
abbrev pub spawned : Entries
spawned = asked 0 Spawn (Split (record { child = 1; next = 2; join = 3; first = true })) ∷ []

-- both write cell 0
abbrev pub both_write : Entries
both_write = asked 2 (Write 0 2) (refused_by 2 1 kinds.Write) ∷ asked 1 (Write 0 1) Granted ∷ spawned

-- the child's write is left out
abbrev pub one_writes : Entries
one_writes = asked 2 (Write 0 2) Granted ∷ spawned

-- the child writes twice
abbrev pub writes_twice : Entries
writes_twice = asked 2 (Write 0 2) (refused_by 2 1 kinds.Write) ∷ asked 1 (Write 0 3) Granted ∷ asked 1 (Write 0 1) Granted ∷ spawned

-- the child reads and writes, and strand 2 reads
abbrev pub reads_and_writes : Entries
reads_and_writes = asked 2 (Read 0) (refused_by 3 1 kinds.Write) ∷ asked 1 (Write 0 1) Granted ∷ asked 1 (Read 0) (Value 0) ∷ spawned

-- the child's read is left out, or its write
abbrev pub only_writes : Entries
only_writes = asked 2 (Read 0) (refused_by 2 1 kinds.Write) ∷ asked 1 (Write 0 1) Granted ∷ spawned

abbrev pub only_reads : Entries
only_reads = asked 2 (Read 0) (Value 0) ∷ asked 1 (Read 0) (Value 0) ∷ spawned

-- the child writes cell 1 too
abbrev pub writes_another : Entries
writes_another = asked 2 (Write 0 2) (refused_by 3 1 kinds.Write) ∷ asked 1 (Write 0 1) Granted ∷ asked 1 (Write 1 7) Granted ∷ spawned

-- both do to cell 1 what they do to cell 0
abbrev pub both_write_both : Entries
both_write_both =
    asked 2 (Write 1 2) (refused_by 3 1 kinds.Write) ∷ asked 2 (Write 0 2) (refused_by 2 1 kinds.Write) ∷ asked 1 (Write 1 1) Granted ∷
    asked 1 (Write 0 1) Granted ∷ spawned

-- both read cell 1, which they don't write
abbrev pub both_read_another : Entries
both_read_another =
    asked 2 (Read 1) (Value 0) ∷ asked 2 (Write 0 2) (refused_by 2 1 kinds.Write) ∷ asked 1 (Read 1) (Value 0) ∷ asked 1 (Write 0 1) Granted ∷ spawned

-- the child returns, and strand 2 spawns once more in the block: both sides of that spawn write
abbrev pub two_spawns : Entries
two_spawns =
    asked 5 (Write 0 2) (refused_by 4 4 kinds.Write) ∷ asked 4 (Write 0 1) Granted ∷
    asked 2 Spawn (Split (record { child = 4; next = 5; join = 3; first = false })) ∷ asked 1 Return Ended ∷ spawned

-- the child returns and is synced with, and the join spawns: both sides of that spawn write
abbrev pub spawn_behind : Entries
spawn_behind =
    asked 5 (Write 0 2) (refused_by 5 4 kinds.Write) ∷ asked 4 (Write 0 1) Granted ∷
    asked 3 Spawn (Split (record { child = 4; next = 5; join = 6; first = true })) ∷ asked 2 Sync (Joined 3) ∷ asked 1 Return Ended ∷ spawned

-- strand 2 spawns once more, and both children write
abbrev pub both_children_write : Entries
both_children_write =
    asked 4 (Write 0 2) (refused_by 3 1 kinds.Write) ∷ asked 1 (Write 0 1) Granted ∷
    asked 2 Spawn (Split (record { child = 4; next = 5; join = 3; first = false })) ∷ spawned

-- what the first child does is taken as done by the second
abbrev pub one_child_writes : Entries
one_child_writes = asked 1 (Write 0 2) Granted ∷ asked 1 (Write 0 1) Granted ∷ spawned

-- the two sides of a spawn write, and are synced
abbrev pub synced : Entries
synced = asked 2 Sync (Joined 3) ∷ asked 1 Return Ended ∷ both_write

-- the child writes and returns, and is not synced with
abbrev pub returned : Entries
returned = asked 1 Return Ended ∷ asked 1 (Write 0 1) Granted ∷ spawned

-- The root function calls a function, both sides of whose spawn write cell 0, and which syncs and returns. Then the root function spawns, and
-- strand 4, the child, calls the same function: it spawns once more.
abbrev pub called_again : Entries
called_again =
    asked 4 Spawn (Split (record { child = 7; next = 8; join = 9; first = true })) ∷ asked 4 Call Same ∷
    asked 3 Spawn (Split (record { child = 4; next = 5; join = 6; first = true })) ∷ asked 3 Return Resumed ∷ asked 2 Sync (Joined 3) ∷
    asked 1 Return Ended ∷ asked 2 (Write 0 2) (refused_by 3 1 kinds.Write) ∷ asked 1 (Write 0 1) Granted ∷
    asked 0 Spawn (Split (record { child = 1; next = 2; join = 3; first = true })) ∷ asked 0 Call Same ∷ []

-- the address of strand 4
abbrev pub second_call : Address
second_call = join ∷ (child ∷ [])

-- both sides of that spawn write too: a local of the second call, which is cell 1
abbrev pub both_calls_write : Entries
both_calls_write = asked 8 (Write 1 2) (refused_by 11 7 kinds.Write) ∷ asked 7 (Write 1 1) Granted ∷ called_again

-- the second call syncs before it writes for the second time
abbrev pub syncs_between : Entries
syncs_between = asked 9 (Write 1 2) Granted ∷ asked 8 Sync (Joined 9) ∷ asked 7 Return Ended ∷ asked 7 (Write 1 1) Granted ∷ called_again

-- the writes of cell 1 are left out of it
abbrev pub only_syncs : Entries
only_syncs = asked 8 Sync (Joined 9) ∷ asked 7 Return Ended ∷ called_again

-- cell 0 stands for cell 1
abbrev pub first_for_second : ℕ → ℕ
first_for_second = renumbered 1 0

-- strand 0 writes cell 0 and spawns, the child reads it, and strand 2 writes it: no access is between the first two or the last two, and the
-- read between the writes conflicts with both
abbrev pub write_read_write : Entries
write_read_write =
    asked 2 (Write 0 2) (refused_by 3 1 kinds.Read) ∷ asked 1 (Read 0) (Value 1) ∷
    asked 0 Spawn (Split (record { child = 1; next = 2; join = 3; first = true })) ∷ asked 0 (Write 0 1) Granted ∷ []

-- the first two are written as cell 0, and the last two as cell 1
abbrev pub near_as_cells : Entries
near_as_cells =
    asked 2 (Write 1 2) (refused_by 4 1 kinds.Read) ∷ asked 1 (Read 1) (Value 0) ∷ asked 1 (Read 0) (Value 1) ∷
    asked 0 Spawn (Split (record { child = 1; next = 2; join = 3; first = true })) ∷ asked 0 (Write 0 1) Granted ∷ []

-- the first and the second are written as cell 0, and the first and the third as cell 1
abbrev pub with_first_as_cells : Entries
with_first_as_cells =
    asked 2 (Write 1 2) Granted ∷ asked 1 (Read 0) (Value 1) ∷
    asked 0 Spawn (Split (record { child = 1; next = 2; join = 3; first = true })) ∷ asked 0 (Write 1 1) Granted ∷ asked 0 (Write 0 1) Granted ∷ []

-- the child writes and reads cell 0, and strand 2 reads it: the child's read is between the other two and conflicts with one of them
abbrev pub write_then_reads : Entries
write_then_reads = asked 2 (Read 0) (refused_by 2 1 kinds.Write) ∷ asked 1 (Read 0) (Value 1) ∷ asked 1 (Write 0 1) Granted ∷ spawned

-- the first two are written as cell 0, and the last two as cell 1
abbrev pub neighbours_as_cells : Entries
neighbours_as_cells =
    asked 2 (Read 1) (Value 0) ∷ asked 1 (Read 1) (Value 0) ∷ asked 1 (Read 0) (Value 1) ∷ asked 1 (Write 0 1) Granted ∷ spawned

-- the accesses of `write_read_write`
abbrev pub first_write : Entry
first_write = asked 0 (Write 0 1) Granted

abbrev pub the_read : Entry
the_read = asked 1 (Read 0) (Value 1)

abbrev pub last_write : Entry
last_write = asked 2 (Write 0 2) (refused_by 3 1 kinds.Read)

-- what the worked histories show
pub record WorkedHistories : Type 0 where
  -- the writes of the two sides race, and one alone does not: an access by another strand may not be left out
  pub both_write_judged : IsJudged two_cells both_write
  pub both_write_refused : HasRefusal both_write 0
  pub one_writes_judged : IsJudged two_cells one_writes
  pub one_writes_clean : HasRefusal one_writes 0 → ⊥
  pub write_left_out : LeavesOut (IsOfCell 0) both_write one_writes
  -- the clean one speaks for each order of its strands, and the other for none
  pub one_writes_speaks : SpeaksForOrders two_cells one_writes
  pub both_write_speaks : SpeaksForOrders two_cells both_write → ⊥
  -- a second write of the child is left out
  pub writes_twice_judged : IsJudged two_cells writes_twice
  pub second_left_out : LeavesOut (IsRepeated both_write) writes_twice both_write
  -- a read beside a write is left out, and the write beside a read may not be
  pub reads_and_writes_judged : IsJudged two_cells reads_and_writes
  pub reads_and_writes_refused : HasRefusal reads_and_writes 0
  pub only_writes_judged : IsJudged two_cells only_writes
  pub read_left_out : LeavesOut (IsReadByWriter only_writes) reads_and_writes only_writes
  pub only_reads_judged : IsJudged two_cells only_reads
  pub only_reads_clean : HasRefusal only_reads 0 → ⊥
  pub only_reads_left_out : LeavesOut (IsOfCell 0) reads_and_writes only_reads
  -- what is done to cell 1 is left out
  pub writes_another_judged : IsJudged two_cells writes_another
  pub another_left_out : LeavesOut (IsOfOther 0) writes_another both_write
  -- one of two cells to which the same is done is left out; where only the strands are the same, the verdicts differ
  pub both_write_both_judged : IsJudged two_cells both_write_both
  pub same_accesses : HaveSameAccesses both_write_both 0 1
  pub cell_left_out : LeavesOut (IsOfCell 1) both_write_both both_write
  pub both_read_another_judged : IsJudged two_cells both_read_another
  pub both_read_another_refused : HasRefusal both_read_another 0
  pub both_read_another_clean : HasRefusal both_read_another 1 → ⊥
  -- one function's local in two calls, of which the second is further down: one of the two is left out
  pub both_calls_write_judged : IsJudged two_cells both_calls_write
  pub second_begins : begins_at (control_part both_calls_write) 7 ≡ second_call
  pub second_inside : IsAskedInside both_calls_write 7 1
  pub first_outside : IsAskedInside both_calls_write 7 0 → ⊥
  pub second_moved : IsMoved both_calls_write second_call 1 both_calls_write [] 0
  pub second_refused : HasRefusal both_calls_write 1
  pub called_again_judged : IsJudged two_cells called_again
  pub called_again_refused : HasRefusal called_again 0
  pub second_left_out_moved : LeavesOut (IsOfOneLeftOut first_for_second) both_calls_write called_again
  -- where a sync is between, so that one word behind the second call is another one, the verdicts differ
  pub syncs_between_judged : IsJudged two_cells syncs_between
  pub same_first : AccessesAt syncs_between (second_call ++ (child ∷ [])) kinds.Write 1
  pub its_first : AccessesAt syncs_between ([] ++ (child ∷ [])) kinds.Write 0
  pub after_sync : AccessesAt syncs_between (second_call ++ (join ∷ [])) kinds.Write 1
  pub before_sync : AccessesAt syncs_between ([] ++ (next ∷ [])) kinds.Write 0
  pub syncs_between_refused : HasRefusal syncs_between 0
  pub syncs_between_clean : HasRefusal syncs_between 1 → ⊥
  pub not_alike : IsLike syncs_between 1 0 → ⊥
  pub only_syncs_judged : IsJudged two_cells only_syncs
  pub only_syncs_refused : HasRefusal only_syncs 0
  pub synced_left_out : LeavesOut (IsOfOneLeftOut first_for_second) syncs_between only_syncs
  -- so they may where the same is done behind an address, and something else is done elsewhere
  pub same_behind : (rest : Address) (kind : Kind) →
      AccessesAt both_read_another (join ∷ rest) kind 0 ↔ AccessesAt both_read_another (join ∷ rest) kind 1
  -- of a write, a read and a write of one cell the writes are no near pair: each near one is written as a cell of its own
  pub write_read_write_judged : IsJudged two_cells write_read_write
  pub write_read_write_refused : HasRefusal write_read_write 0
  pub first_near : IsNear write_read_write 0 first_write kinds.Write the_read kinds.Read
  pub last_near : IsNear write_read_write 0 the_read kinds.Read last_write kinds.Write
  pub writes_not_near : IsNear write_read_write 0 first_write kinds.Write last_write kinds.Write → ⊥
  pub near_as_cells_judged : IsJudged two_cells near_as_cells
  pub first_as_cell : StandsForPair (control_part write_read_write) (deed_of first_write kinds.Write) (deed_of the_read kinds.Read) near_as_cells 0
  pub last_as_cell : StandsForPair (control_part write_read_write) (deed_of the_read kinds.Read) (deed_of last_write kinds.Write) near_as_cells 1
  pub its_pairs : HasItsPairs write_read_write 0 near_as_cells
  pub near_as_cells_clean : HasRefusal near_as_cells 0 → ⊥
  pub near_as_cells_refused : HasRefusal near_as_cells 1
  -- where the pairs with the first access alone are written, the race of the other two is lost
  pub with_first_judged : IsJudged two_cells with_first_as_cells
  pub with_first_read : StandsForPair (control_part write_read_write) (deed_of first_write kinds.Write) (deed_of the_read kinds.Read) with_first_as_cells 0
  pub with_first_last : StandsForPair (control_part write_read_write) (deed_of first_write kinds.Write) (deed_of last_write kinds.Write) with_first_as_cells 1
  pub with_first_clean : (cell : ℕ) → HasRefusal with_first_as_cells cell → ⊥
  pub not_its_pairs : HasItsPairs write_read_write 0 with_first_as_cells → ⊥
  -- so is one where only pairs with no access at all between them are written: one that conflicts with one of the two leaves them near
  pub write_then_reads_judged : IsJudged two_cells write_then_reads
  pub write_then_reads_refused : HasRefusal write_then_reads 0
  pub across_near :
      IsNear write_then_reads 0 (asked 1 (Write 0 1) Granted) kinds.Write (asked 2 (Read 0) (refused_by 2 1 kinds.Write)) kinds.Read
  pub neighbours_judged : IsJudged two_cells neighbours_as_cells
  pub neighbours_clean : (cell : ℕ) → HasRefusal neighbours_as_cells cell → ⊥
  pub not_by_neighbours : HasItsPairs write_then_reads 0 neighbours_as_cells → ⊥
  -- the pair of a local in the second call of a function, as the cell of one in the first
  pub second_as_first : StandsForPair (control_part both_calls_write) (deed 7 kinds.Write) (deed 8 kinds.Write) called_again 0
  -- the first of two spawns is left out, in whose function nothing is accessed
  pub two_spawns_judged : IsJudged two_cells two_spawns
  pub two_spawns_refused : HasRefusal two_spawns 0
  pub two_spawns_empty : IsEmpty two_spawns []
  pub two_spawns_through : GoesThrough (control_part two_spawns) [] 1
  pub spawn_left_out : LeavesOutSpawn [] 1 two_spawns both_write
  -- so is a spawn alone in its block, and its sync with it
  pub spawn_behind_judged : IsJudged two_cells spawn_behind
  pub spawn_behind_refused : HasRefusal spawn_behind 0
  pub spawn_behind_empty : IsEmpty spawn_behind []
  pub spawn_behind_through : GoesThrough (control_part spawn_behind) [] 0
  pub sync_left_out : LeavesOutSpawn [] 0 spawn_behind both_write
  -- a spawn whose function accesses the cell may not be
  pub both_children_write_judged : IsJudged two_cells both_children_write
  pub both_children_write_refused : HasRefusal both_children_write 0
  pub both_children_through : GoesThrough (control_part both_children_write) [] 1
  pub one_child_writes_judged : IsJudged two_cells one_child_writes
  pub one_child_writes_clean : HasRefusal one_child_writes 0 → ⊥
  pub child_left_out : LeavesOutSpawn [] 1 both_children_write one_child_writes
  -- the write of the join after the sync is taken as one of cell 1
  pub synced_closed : HasNoOpenBlock (control_part synced)
  pub synced_judged : IsJudged two_cells (asked 3 (Write 0 4) Granted ∷ synced)
  pub synced_refused : HasRefusal (asked 3 (Write 0 4) Granted ∷ synced) 0
  pub synced_moved_judged : IsJudged two_cells (asked 3 (Write 1 4) Granted ∷ synced)
  pub synced_moves : AskChanged (moved 0 1) (asked 3 (Write 0 4) Granted ∷ []) (asked 3 (Write 1 4) Granted ∷ [])
  pub synced_same : AskChanged unchanged synced synced
  -- before the sync it may not be, though no child is outstanding
  pub returned_none : (number join : ℕ) → Outstanding (control_part returned) number join → ⊥
  pub returned_open : HasNoOpenBlock (control_part returned) → ⊥
  pub returned_judged : IsJudged two_cells (asked 2 (Write 0 4) (refused_by 2 1 kinds.Write) ∷ returned)
  pub returned_refused : HasRefusal (asked 2 (Write 0 4) (refused_by 2 1 kinds.Write) ∷ returned) 0
  pub returned_moved_judged : IsJudged two_cells (asked 2 (Write 1 4) Granted ∷ returned)
  pub returned_moves : AskChanged (moved 0 1) (asked 2 (Write 0 4) (refused_by 2 1 kinds.Write) ∷ []) (asked 2 (Write 1 4) Granted ∷ [])
  pub returned_moved_clean : (cell : ℕ) → HasRefusal (asked 2 (Write 1 4) Granted ∷ returned) cell → ⊥
