-- Worked histories of a function that is called twice: its locals, and what a sync between changes.
use Rattle.std.proofs.Common.{◌≡◌, ◌⊎◌, inl, inr, ℕ, true, false, [], ◌∷◌, ◌++◌, Some, refl, sym, ap, subst, lit<}
use Rattle.model_accesses.specs.declared.kind.Kind.{Kind}
use Rattle.model_accesses.specs.declared.kind.Kind.TheVariants as kinds
use Rattle.model_accesses.specs.declared.request.Act.TheVariants.{Spawn, Sync, Call, Return, Write}
use Rattle.model_strands.specs.Updated.{updated}
use Rattle.model_strands.specs.Address.{Word, Address, child, next, join}
use Rattle.model_strands.specs.Blocks.{root, called, spawned as in_spawned}
use Rattle.model_strands.specs.Legal.{open_split, sync_joined, called_return, child_return}
use Rattle.model_strands.specs.Dag.{stay, step, Reaches}
use Rattle.model_strands.specs.Addresses.{address}
use Rattle.model_histories.specs.declared.answer.Answer.TheVariants.{Split, Same, Joined, Resumed, Ended, Granted}
use Rattle.model_histories.specs.Entries.{control_part}
use Rattle.model_accesses.specs.declared.request.Request.{Request}
use Rattle.model_races.specs.Judged.{IsJudged}
use Rattle.law_traces.specs.Locations.{access_of, HasRefusal}
use Rattle.law_addresses.specs.Address.{IsPrefix}
use Rattle.law_traces.specs.Sets.{AccessesAt}
use Rattle.law_traces.specs.Moves.{IsMoved, IsLike, IsOfOneLeftOut}
use Rattle.law_traces.specs.Functions.{begins_at, IsAskedInside}
use Rattle.law_traces.specs.Omissions.{LeavesOut, nothing, keeps, omits}
use Rattle.law_traces.specs.Examples.{two_cells, asked, refused_by, both_read_another, called_again, second_call, both_calls_write, syncs_between, only_syncs, first_for_second}
use Rattle.law_traces.proofs.Moves.{moved_location_law}
use Rattle.law_traces.proofs.Judging.{write_granted, write_refused, spawns, returns, syncs, calls, resumes, parallel_in, none_refused, EachAccess, each_access, another_cell, nothing_judged, cell_of, kind_of, no_access_of_spawn, no_access_of_sync, no_access_of_return, no_access_of_call}

later_join : ◌≡◌ {A = ℕ} 9 6 → ⊥
later_join e = absurd (cc)

first_join : ◌≡◌ {A = ℕ} 9 3 → ⊥
first_join e = absurd (cc)

pub called_again_judged : IsJudged two_cells called_again
unfolding updated
called_again_judged =
    let h1 = asked 0 Call Same ∷ [] in
    let j1 = calls [] nothing_judged 0 refl in
    let h2 = asked 0 Spawn (Split (record { child = 1; next = 2; join = 3; first = true })) ∷ h1 in
    let j2 = spawns h1 j1 0 refl (record { child = 1; next = 2; join = 3; first = true }) (open_split refl tt refl refl refl) in
    let h3 = asked 1 (Write 0 1) Granted ∷ h2 in
    let j3 = write_granted h2 j2 1 refl 0 1 (lit< tt) tt in
    let h4 = asked 2 (Write 0 2) (refused_by 3 1 kinds.Write) ∷ h3 in
    let j4 = write_refused h3 j3 2 refl 0 2 (record { entry = 3; strand = 1; kind = kinds.Write }) (lit< tt)
    ((0, lit< tt, refl), refl, refl, parallel_in h3 j3 1 2 (inl refl) (inl refl) refl) in
    let h5 = asked 1 Return Ended ∷ h4 in
    let j5 = returns h4 j4 1 refl (child_return {number = 2} {join = 3} refl refl (λ t. absurd t.0)) in
    let h6 = asked 2 Sync (Joined 3) ∷ h5 in
    let j6 = syncs h5 j5 2 refl 3
    (sync_joined {join = 3} {below = called 1 root} refl refl (λ m o. elim o.1 [ inl t ↦ o.0 (ap (λ z. in_spawned z 3) (sym t.0)) | inr t ↦ absurd t ])) in
    let h7 = asked 3 Return Resumed ∷ h6 in
    let j7 = resumes h6 j6 3 refl (called_return {number = 1} {below = root} refl refl) in
    let h8 = asked 3 Spawn (Split (record { child = 4; next = 5; join = 6; first = true })) ∷ h7 in
    let j8 = spawns h7 j7 3 refl (record { child = 4; next = 5; join = 6; first = true }) (open_split refl tt refl refl refl) in
    let h9 = asked 4 Call Same ∷ h8 in
    let j9 = calls h8 j8 4 refl in
    spawns h9 j9 4 refl (record { child = 7; next = 8; join = 9; first = true }) (open_split refl tt refl refl refl)

pub called_again_refused : HasRefusal called_again 0
called_again_refused = (asked 2 (Write 0 2) (refused_by 3 1 kinds.Write), kinds.Write, (6, lit< tt, refl), refl, tt)

second_writes : IsJudged two_cells (asked 7 (Write 1 1) Granted ∷ called_again)
unfolding updated
second_writes = write_granted called_again called_again_judged 7 refl 1 1 (lit< tt) ((λ at rule p. another_cell (sym at)), tt)

pub both_calls_write_judged : IsJudged two_cells both_calls_write
unfolding updated
both_calls_write_judged =
    write_refused (asked 7 (Write 1 1) Granted ∷ called_again) second_writes 8 refl 1 2 (record { entry = 11; strand = 7; kind = kinds.Write }) (lit< tt)
    ((1, lit< tt, refl), refl, refl, parallel_in (asked 7 (Write 1 1) Granted ∷ called_again) second_writes 7 8 (inl refl) (inl refl) refl)

pub second_refused : HasRefusal both_calls_write 1
second_refused = (asked 8 (Write 1 2) (refused_by 11 7 kinds.Write), kinds.Write, (0, lit< tt, refl), refl, tt)

-- of what is asked before the second call writes, two writes are accesses
pub each_of_first : (Has : ℕ → Kind → Type 0) (cell : ℕ) → (Some (access_of kinds.Write 0) ≡ Some (access_of kinds.Write cell) → Has 1 kinds.Write) →
    (Some (access_of kinds.Write 0) ≡ Some (access_of kinds.Write cell) → Has 2 kinds.Write) → EachAccess Has cell called_again
each_of_first Has c one two = (
  (λ k q. absurd (no_access_of_spawn q)),
  (
    (λ k q. absurd (no_access_of_call q)),
    (
      (λ k q. absurd (no_access_of_spawn q)),
      (
        (λ k q. absurd (no_access_of_return q)),
        (
          (λ k q. absurd (no_access_of_sync q)),
          (
            (λ k q. absurd (no_access_of_return q)),
            (
              (λ k q. subst (Has 2) (sym (kind_of q)) (two (ap (λ z. Some (access_of kinds.Write z)) (cell_of q)))),
              (
                (λ k q. subst (Has 1) (sym (kind_of q)) (one (ap (λ z. Some (access_of kinds.Write z)) (cell_of q)))),
                ((λ k q. absurd (no_access_of_spawn q)), ((λ k q. absurd (no_access_of_call q)), tt)),
              ),
            ),
          ),
        ),
      ),
    ),
  ),
)

none_of_first : (Has : ℕ → Kind → Type 0) → EachAccess Has 1 called_again
none_of_first Has = each_of_first Has 1 (λ q. absurd (another_cell (sym (cell_of q)))) (λ q. absurd (another_cell (sym (cell_of q))))

-- in both calls the two sides of the spawn write
abbrev IsSide : Address → Kind → Type 0
IsSide rest kind = (kind ≡ kinds.Write) × ((rest ≡ child ∷ []) ⊎ (rest ≡ next ∷ []))

sides_of : (front : Address) (cell : ℕ) → AccessesAt both_calls_write (front ++ (child ∷ [])) kinds.Write cell →
    AccessesAt both_calls_write (front ++ (next ∷ [])) kinds.Write cell → (rest : Address) (kind : Kind) → IsSide rest kind → AccessesAt both_calls_write (front ++ rest) kind cell
sides_of f c one two r k (is, inl at) = rw (is, at) one
sides_of f c one two r k (is, inr at) = rw (is, at) two

first_call_sides : (rest : Address) (kind : Kind) → IsSide rest kind → AccessesAt both_calls_write ([] ++ rest) kind 0
unfolding updated
first_call_sides = sides_of [] 0
    (1, refl, (asked 1 (Write 0 1) Granted, (9, lit< tt, refl), refl, refl))
    (2, refl, (asked 2 (Write 0 2) (refused_by 3 1 kinds.Write), (8, lit< tt, refl), refl, refl))

second_call_sides : (rest : Address) (kind : Kind) → IsSide rest kind → AccessesAt both_calls_write (second_call ++ rest) kind 1
unfolding updated
second_call_sides = sides_of second_call 1
    (7, refl, (asked 7 (Write 1 1) Granted, (1, lit< tt, refl), refl, refl))
    (8, refl, (asked 8 (Write 1 2) (refused_by 11 7 kinds.Write), (0, lit< tt, refl), refl, refl))

behind_two : {word other : Word} {a b : Address} → word ∷ (other ∷ a) ≡ word ∷ (other ∷ b) → b ≡ a
behind_two e = cc

sides_of_first : (rest : Address) (kind : Kind) → AccessesAt both_calls_write ([] ++ rest) kind 0 → IsSide rest kind
unfolding updated
sides_of_first r k (s, at, x) =
    each_access (λ strand kind. address (control_part both_calls_write) strand ≡ r → IsSide r kind) 0 both_calls_write (
      (λ m q. absurd (another_cell (cell_of q))),
      (
        (λ m q. absurd (another_cell (cell_of q))),
        each_of_first (λ strand kind. address (control_part both_calls_write) strand ≡ r → IsSide r kind) 0
            (λ q e. (refl, inl (sym e))) (λ q e. (refl, inr (sym e))),
      ),
    ) s k x at

sides_of_second : (rest : Address) (kind : Kind) → AccessesAt both_calls_write (second_call ++ rest) kind 1 → IsSide rest kind
unfolding updated
sides_of_second r k (s, at, x) =
    each_access (λ strand kind. address (control_part both_calls_write) strand ≡ second_call ++ r → IsSide r kind) 1 both_calls_write (
      (λ m q e. (kind_of q, inr (behind_two e))),
      ((λ m q e. (kind_of q, inl (behind_two e))), none_of_first (λ strand kind. address (control_part both_calls_write) strand ≡ second_call ++ r → IsSide r kind)),
    ) s k x at

second_below : (at : Address) (kind : Kind) → AccessesAt both_calls_write at kind 1 → IsPrefix second_call at
unfolding updated
second_below a k (s, at, x) =
    subst (IsPrefix second_call) at (each_access (λ strand kind. IsPrefix second_call (address (control_part both_calls_write) strand)) 1 both_calls_write (
      (λ m q. (next ∷ [], refl)),
      ((λ m q. (child ∷ [], refl)), none_of_first (λ strand kind. IsPrefix second_call (address (control_part both_calls_write) strand))),
    ) s k x)

-- the second call is the seventh event
pub second_begins : begins_at (control_part both_calls_write) 7 ≡ second_call
unfolding updated
second_begins = refl

not_true : false ≡ true → ⊥
not_true e = absurd (cc)

pub second_inside : IsAskedInside both_calls_write 7 1
unfolding updated
second_inside = (
  (λ k q. refl),
  (
    (λ k q. refl),
    (
      (λ k q. absurd (no_access_of_spawn q)),
      (
        (λ k q. absurd (no_access_of_call q)),
        (
          (λ k q. absurd (no_access_of_spawn q)),
          (
            (λ k q. absurd (no_access_of_return q)),
            (
              (λ k q. absurd (no_access_of_sync q)),
              (
                (λ k q. absurd (no_access_of_return q)),
                (
                  (λ k q. absurd (another_cell (sym (cell_of q)))),
                  ((λ k q. absurd (another_cell (sym (cell_of q)))), ((λ k q. absurd (no_access_of_spawn q)), ((λ k q. absurd (no_access_of_call q)), tt))),
                ),
              ),
            ),
          ),
        ),
      ),
    ),
  ),
)

pub first_outside : IsAskedInside both_calls_write 7 0 → ⊥
unfolding updated
first_outside inside = not_true (inside.1.1.1.1.1.1.1.1.0 kinds.Write refl)

pub second_moved : IsMoved both_calls_write second_call 1 both_calls_write [] 0
second_moved = record {
  below = second_below;
  other_below = λ at kind x. (at, refl);
  same = λ rest kind. ((λ x. first_call_sides rest kind (sides_of_second rest kind x)), (λ x. second_call_sides rest kind (sides_of_first rest kind x)));
}

-- the entries before the second call's writes are all kept
called_again_kept : {May : Request → Type 0} → LeavesOut May called_again called_again
called_again_kept =
    keeps (keeps (keeps (keeps (keeps (keeps (keeps (keeps (keeps (keeps nothing (refl, refl)) (refl, refl)) (refl, refl)) (refl, refl)) (refl, refl))
    (refl, refl)) (refl, refl)) (refl, refl)) (refl, refl)) (refl, refl)

zero_not_one : ◌≡◌ {A = ℕ} 0 1 → ⊥
zero_not_one e = absurd (cc)

pub second_left_out_moved : LeavesOut (IsOfOneLeftOut first_for_second) both_calls_write called_again
second_left_out_moved = omits (omits called_again_kept (_, refl) (kinds.Write, 1, refl, zero_not_one)) (_, refl) (kinds.Write, 1, refl, zero_not_one)

second_returned : IsJudged two_cells (asked 7 Return Ended ∷ asked 7 (Write 1 1) Granted ∷ called_again)
unfolding updated
second_returned = returns (asked 7 (Write 1 1) Granted ∷ called_again) second_writes 7 refl (child_return {number = 8} {join = 9} refl refl (λ t. absurd t.0))

second_synced : IsJudged two_cells (asked 8 Sync (Joined 9) ∷ asked 7 Return Ended ∷ asked 7 (Write 1 1) Granted ∷ called_again)
unfolding updated
second_synced = syncs (asked 7 Return Ended ∷ asked 7 (Write 1 1) Granted ∷ called_again) second_returned 8 refl 9
    (sync_joined {join = 9} {below = called 7 (in_spawned 6 6)} refl refl (λ m o. elim o.1 [
      | inl t ↦ o.0 (ap (λ z. in_spawned z 9) (sym t.0))
      | inr (inl t) ↦ later_join t.1
      | inr (inr t) ↦ elim t.1 [ inl u ↦ first_join u.1 | inr u ↦ absurd u ]
    ]))

second_reaches_join : Reaches (control_part (asked 8 Sync (Joined 9) ∷ asked 7 Return Ended ∷ asked 7 (Write 1 1) Granted ∷ called_again)) 7 9
unfolding updated
second_reaches_join = step (inr (inr (inl (refl, refl)), inl refl)) stay

pub syncs_between_judged : IsJudged two_cells syncs_between
unfolding updated
syncs_between_judged =
    write_granted (asked 8 Sync (Joined 9) ∷ asked 7 Return Ended ∷ asked 7 (Write 1 1) Granted ∷ called_again) second_synced 9 refl 1 2 (lit< tt)
    ((λ at rule p. another_cell (sym at)), ((λ at rule p. p.0 second_reaches_join), tt))

pub same_first : AccessesAt syncs_between (second_call ++ (child ∷ [])) kinds.Write 1
unfolding updated
same_first = (7, refl, (asked 7 (Write 1 1) Granted, (3, lit< tt, refl), refl, refl))

pub its_first : AccessesAt syncs_between ([] ++ (child ∷ [])) kinds.Write 0
unfolding updated
its_first = (1, refl, (asked 1 (Write 0 1) Granted, (11, lit< tt, refl), refl, refl))

pub after_sync : AccessesAt syncs_between (second_call ++ (join ∷ [])) kinds.Write 1
unfolding updated
after_sync = (9, refl, (asked 9 (Write 1 2) Granted, (0, lit< tt, refl), refl, refl))

pub before_sync : AccessesAt syncs_between ([] ++ (next ∷ [])) kinds.Write 0
unfolding updated
before_sync = (2, refl, (asked 2 (Write 0 2) (refused_by 3 1 kinds.Write), (10, lit< tt, refl), refl, refl))

pub syncs_between_clean : HasRefusal syncs_between 1 → ⊥
syncs_between_clean =
    none_refused 1 syncs_between (
      (λ k q r. r),
      (
        (λ k q r. r),
        (
          (λ k q r. r),
          (
            (λ k q r. r),
            (
              (λ k q r. r),
              (
                (λ k q r. r),
                (
                  (λ k q r. r),
                  (
                    (λ k q r. r),
                    (
                      (λ k q r. r),
                      (
                        (λ k q r. r),
                        ((λ k q r. another_cell (sym (cell_of q))), ((λ k q r. r), ((λ k q r. r), ((λ k q r. r), tt)))),
                      ),
                    ),
                  ),
                ),
              ),
            ),
          ),
        ),
      ),
    )

pub syncs_between_refused : HasRefusal syncs_between 0
syncs_between_refused = (asked 2 (Write 0 2) (refused_by 3 1 kinds.Write), kinds.Write, (10, lit< tt, refl), refl, tt)

-- else the law would give both one verdict
pub not_alike : IsLike syncs_between 1 0 → ⊥
not_alike (f, g, moved) =
    syncs_between_clean
    ((moved_location_law two_cells two_cells syncs_between syncs_between syncs_between_judged syncs_between_judged f g 1 0 moved).1 syncs_between_refused)

pub join_none : (rest : Address) (kind : Kind) (cell : ℕ) → AccessesAt both_read_another (join ∷ rest) kind cell → ⊥
unfolding updated
join_none r k c (s, at, x) =
    each_access (λ strand kind. address (control_part both_read_another) strand ≡ join ∷ r → ⊥) c both_read_another (
      (λ m q. next_not_join),
      ((λ m q. next_not_join), ((λ m q. child_not_join), ((λ m q. child_not_join), ((λ m q. absurd (no_access_of_spawn q)), tt)))),
    ) s k x at
  where
    next_not_join : {a b : Address} → next ∷ a ≡ join ∷ b → ⊥
    next_not_join e = absurd (cc)

    child_not_join : {a b : Address} → child ∷ a ≡ join ∷ b → ⊥
    child_not_join e = absurd (cc)

called_again_returned : IsJudged two_cells (asked 7 Return Ended ∷ called_again)
unfolding updated
called_again_returned = returns called_again called_again_judged 7 refl (child_return {number = 8} {join = 9} refl refl (λ t. absurd t.0))

pub only_syncs_judged : IsJudged two_cells only_syncs
unfolding updated
only_syncs_judged = syncs (asked 7 Return Ended ∷ called_again) called_again_returned 8 refl 9
    (sync_joined {join = 9} {below = called 7 (in_spawned 6 6)} refl refl (λ m o. elim o.1 [
      | inl t ↦ o.0 (ap (λ z. in_spawned z 9) (sym t.0))
      | inr (inl t) ↦ later_join t.1
      | inr (inr t) ↦ elim t.1 [ inl u ↦ first_join u.1 | inr u ↦ absurd u ]
    ]))

pub only_syncs_refused : HasRefusal only_syncs 0
only_syncs_refused = (asked 2 (Write 0 2) (refused_by 3 1 kinds.Write), kinds.Write, (8, lit< tt, refl), refl, tt)

pub synced_left_out : LeavesOut (IsOfOneLeftOut first_for_second) syncs_between only_syncs
synced_left_out =
    omits (keeps (keeps (omits called_again_kept (_, refl) (kinds.Write, 1, refl, zero_not_one)) (refl, refl)) (refl, refl)) (_, refl)
    (kinds.Write, 1, refl, zero_not_one)
