-- The worked histories are judged.
use Rattle.std.proofs.Common.{◌≡◌, inl, inr, ℕ, true, [], ◌∷◌, refl, sym, ap, lit<, arith}
use Rattle.std.proofs.lemmas.List.Elements.{All-from_recursion}
use Rattle.model_accesses.specs.declared.kind.Kind.TheVariants as kind
use Rattle.model_accesses.specs.declared.request.Act.{Act}
use Rattle.model_strands.specs.Updated.{updated}
use Rattle.model_strands.specs.History.{same, joined, ended, finished, History}
use Rattle.model_strands.specs.Strands.{Running}
use Rattle.model_strands.specs.Blocks.{root, spawned as spawned_in}
use Rattle.model_strands.specs.Legal.{Allowed, sync_same, sync_joined, child_return, root_return}
use Rattle.model_strands.specs.Dag.{Reaches, stay, step}
use Rattle.law_strands.specs.Examples.{first_spawn}
use Rattle.law_strands.proofs.Examples.{examples_law as control_examples}
use Rattle.model_accesses.specs.Accesses.{Access, Races}
use Rattle.model_races.specs.declared.access.CellAccess.{CellAccess}
use Rattle.model_histories.specs.declared.answer.Answer.TheVariants.{Split, Same, Value}
use Rattle.model_histories.specs.declared.answer.Entry.{Entry}
use Rattle.model_histories.specs.Legal.{MayFollow}
use Rattle.model_races.specs.Accesses.{granted}
use Rattle.model_races.specs.Judged.{IsJudged}
use Rattle.model_histories.specs.Extensions.{IsCleanAnswer, IsClean}
use Rattle.race_gate.proofs.WorkedSteps.{free-at_first, free-of_more, free-of_one, write-granted, read-granted, root_runs, split_allowed, child_runs, next_runs}
use Rattle.law_runs.specs.Examples as example
use Rattle.law_runs.specs.Examples.{two_cells, asked, child_wrote, read_refused, pair_entries, other_cell, series_joined, series_written, series_entries, never_synced, chosen}

-- ---- accesses

other_place : ◌≡◌ {A = ℕ} 0 1 → ⊥
other_place e = absurd (omega (arith, e))

abbrev reading : ℕ → CellAccess
reading cell = record { kind = kind.Read; location = cell }

abbrev writing : ℕ → CellAccess
writing cell = record { kind = kind.Write; location = cell }

-- the child's write, and the read behind the join
abbrev child_access : Access
child_access = record { strand = 1; kind = kind.Write; location = 0; entry = 2 }

abbrev join_access : Access
join_access = record { strand = 3; kind = kind.Read; location = 0; entry = 6 }

-- ---- what control events may come

abbrev child_synced : History
child_synced = same 1 ∷ first_spawn

abbrev child_returned : History
child_returned = ended 1 ∷ child_synced

abbrev after_join : History
after_join = joined 2 3 ∷ child_returned

spawned_follows : MayFollow two_cells [] (asked 0 Act.Spawn 5 (Split (record { child = 1; next = 2; join = 3; first = true })))
spawned_follows = record { runs = root_runs; in_range = tt; belongs = tt; allowed = split_allowed }

same_allowed : Allowed first_spawn (same 1)
unfolding updated
same_allowed = sync_same refl tt

child_runs_on : Running child_synced 1
unfolding updated
child_runs_on = refl

ended_allowed : Allowed child_synced (ended 1)
unfolding updated
ended_allowed = child_return {number = 1} {join = 3} refl refl (λ last. absurd last.0)

next_runs_on : Running child_returned 2
unfolding updated
next_runs_on = refl

joined_allowed : Allowed child_returned (joined 2 3)
unfolding updated
joined_allowed =
    sync_joined {join = 3} {below = root} refl refl
    (λ number out. elim out.1 [ inl t ↦ out.0 (ap (λ n. spawned_in n 3) (sym t.0)) | inr none ↦ absurd none ])

join_runs : Running after_join 3
unfolding updated
join_runs = refl

finished_allowed : Allowed after_join (finished 3)
unfolding updated
finished_allowed = root_return refl refl

closing_allowed : Allowed after_join (same 3)
unfolding updated
closing_allowed = sync_same refl tt

closed_runs : Running (same 3 ∷ after_join) 3
unfolding updated
closed_runs = refl

return_allowed : Allowed (same 3 ∷ after_join) (finished 3)
unfolding updated
return_allowed = root_return refl refl

child_reaches : Reaches after_join 1 3
unfolding updated
child_reaches = step (inr (inr (inl (refl, refl)), inl refl)) stay

-- ---- judged

module _ (value line : ℕ) where
  pub wrote_judged : IsJudged two_cells (child_wrote value line)
  wrote_judged = record {
    legal = ((tt, spawned_follows), record { runs = child_runs; in_range = lit< tt; belongs = tt; allowed = tt });
    memory = ((tt, tt), write-granted example.spawned 1 (writing 0) (free-at_first first_spawn 1 (writing 0)));
    reducers = ((tt, tt), tt);
  }

write_races : (line : ℕ) → Races first_spawn (granted (child_wrote 7 line)) 0 kind.Read 2 child_access
write_races line = ((0, lit< tt, refl), refl, refl, control_examples.sides_parallel)

refused_judged : (line : ℕ) → IsJudged two_cells (read_refused line)
refused_judged line =
    let before = wrote_judged 7 line in
    record {
      legal = (before.legal, record { runs = next_runs; in_range = lit< tt; belongs = tt; allowed = tt });
      memory = (before.memory, record { refused = ((λ t. (_, write_races line)), (λ race. tt)); witness = (write_races line, refl); value = tt });
      reducers = (before.reducers, tt);
    }

pub pair_judged : IsJudged two_cells pair_entries
pair_judged =
    let before = refused_judged 9 in
    record {
      legal = (
        (
          (
            (before.legal, record { runs = child_runs; in_range = tt; belongs = tt; allowed = same_allowed }),
            record { runs = child_runs_on; in_range = tt; belongs = tt; allowed = ended_allowed },
          ),
          record { runs = next_runs_on; in_range = tt; belongs = tt; allowed = joined_allowed },
        ),
        record { runs = join_runs; in_range = tt; belongs = tt; allowed = finished_allowed },
      );
      memory = ((((before.memory, tt), tt), tt), tt);
      reducers = ((((before.reducers, tt), tt), tt), tt);
    }

pub pair_not_clean : IsClean pair_entries → ⊥
pair_not_clean clean = clean 4 (asked 0 Act.Sync 0 Same) (lit< tt)

pub other_cell_judged : IsJudged two_cells other_cell
other_cell_judged =
    let before = wrote_judged 7 9 in
    record {
      legal = (before.legal, record { runs = next_runs; in_range = lit< tt; belongs = tt; allowed = tt });
      memory = (
        before.memory,
        read-granted (child_wrote 7 9) 2 (reading 1) (free-of_one first_spawn 2 (reading 1) child_access (λ at rule parallel. other_place at)) 0 refl,
      );
      reducers = (before.reducers, tt);
    }

joined_judged : IsJudged two_cells series_joined
joined_judged =
    let before = wrote_judged 7 11 in
    record {
      legal = (
        (
          (before.legal, record { runs = child_runs; in_range = tt; belongs = tt; allowed = same_allowed }),
          record { runs = child_runs_on; in_range = tt; belongs = tt; allowed = ended_allowed },
        ),
        record { runs = next_runs_on; in_range = tt; belongs = tt; allowed = joined_allowed },
      );
      memory = (((before.memory, tt), tt), tt);
      reducers = (((before.reducers, tt), tt), tt);
    }

written_judged : IsJudged two_cells series_written
written_judged =
    let before = joined_judged in
    record {
      legal = (
        (before.legal, record { runs = join_runs; in_range = lit< tt; belongs = tt; allowed = tt }),
        record { runs = join_runs; in_range = lit< tt; belongs = tt; allowed = tt },
      );
      memory = (
        (
          before.memory,
          read-granted series_joined 3 (reading 0) (free-of_one after_join 3 (reading 0) child_access (λ at rule parallel. parallel.0 child_reaches)) 7 refl,
        ),
        write-granted (asked 3 (Act.Read 0) 7 (Value 7) ∷ series_joined) 3 (writing 1)
            (free-of_more after_join 3 (writing 1) (child_access ∷ []) join_access
            (free-of_one after_join 3 (writing 1) child_access (λ at rule parallel. other_place at)) (λ at rule parallel. other_place at)),
      );
      reducers = ((before.reducers, tt), tt);
    }

pub series_judged : IsJudged two_cells series_entries
series_judged =
    let before = written_judged in
    record {
      legal = (
        (before.legal, record { runs = join_runs; in_range = tt; belongs = tt; allowed = closing_allowed }),
        record { runs = closed_runs; in_range = tt; belongs = tt; allowed = return_allowed },
      );
      memory = ((before.memory, tt), tt);
      reducers = ((before.reducers, tt), tt);
    }

pub series_clean : IsClean series_entries
series_clean = All-from_recursion (λ (entry : Entry). IsCleanAnswer entry.answer) series_entries (tt, (tt, (tt, (tt, (tt, (tt, (tt, (tt, (tt, tt)))))))))

pub never_synced_judged : IsJudged two_cells never_synced
never_synced_judged =
    let before = written_judged in
    record {
      legal = (before.legal, record { runs = join_runs; in_range = tt; belongs = tt; allowed = finished_allowed });
      memory = (before.memory, tt);
      reducers = (before.reducers, tt);
    }

pub chosen_judged : (value line : ℕ) → IsJudged two_cells (chosen value line)
chosen_judged value line =
    let before = refused_judged 14 in
    record {
      legal = (before.legal, record { runs = next_runs; in_range = lit< tt; belongs = tt; allowed = tt });
      memory = (
        before.memory,
        write-granted (read_refused 14) 2 (writing 1) (free-of_one first_spawn 2 (writing 1) child_access (λ at rule parallel. other_place at)),
      );
      reducers = (before.reducers, tt);
    }
