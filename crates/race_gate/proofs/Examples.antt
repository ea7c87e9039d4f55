-- The worked histories are judged as they show.
use Rattle.std.proofs.Common.{◌≡◌, ℕ, zero, suc, true, [], ◌∷◌, refl, lit<, arith}
use Rattle.model_accesses.specs.declared.kind.Rule.TheVariants.{Free, Race}
use Rattle.model_accesses.specs.declared.kind.Kind.TheVariants as kind
use Rattle.model_accesses.specs.declared.request.Act.TheVariants.{Spawn, Read, Write}
use Rattle.model_strands.specs.Updated.{updated}
use Rattle.model_strands.specs.Strands.{Running}
use Rattle.model_strands.specs.Legal.{sync_same, root_return}
use Rattle.model_strands.specs.Dag.{stay}
use Rattle.law_strands.specs.Examples.{first_spawn}
use Rattle.law_strands.proofs.Examples.{examples_law}
use Rattle.model_accesses.specs.Accesses.{Races}
use Rattle.model_races.specs.declared.access.CellAccess.{CellAccess}
use Rattle.model_histories.specs.declared.answer.Answer.{Answer}
use Rattle.model_histories.specs.declared.answer.Answer.TheVariants.{Split, Granted, Value}
use Rattle.model_histories.specs.Entries.{Entries, control_part}
use Rattle.model_histories.specs.Legal.{Belongs, MayFollow}
use Rattle.model_races.specs.Accesses.{granted}
use Rattle.model_races.specs.Judged.{IsJudged}
use Rattle.model_histories.specs.Extensions.{IsClean}
use Rattle.race_gate.proofs.WorkedSteps.{free-at_first, free-of_one, write-granted, read-granted, root_runs, split_allowed, child_runs, next_runs}
use Rattle.race_gate.specs.Examples.{one_cell, asked, one_strand, whole_run, spawned, parallel_reads, racing_write, refused_by_read, refused_by_write, read_behind, WorkedHistories}

free_is_no_race : Free ≡ Race → ⊥
free_is_no_race e = absurd (cc)

-- an access of cell 0 by a running strand
module _ (entries : Entries) (strand : ℕ) (runs : Running (control_part entries) strand) where
  reads : (value : ℕ) → MayFollow one_cell entries (asked strand (Read 0) (Value value))
  reads value = record { runs = runs; in_range = lit< tt; belongs = tt; allowed = tt }

  writes : (value : ℕ) (answer : Answer) → Belongs (Write 0 value) answer → MayFollow one_cell entries (asked strand (Write 0 value) answer)
  writes value answer belongs = record { runs = runs; in_range = lit< tt; belongs = belongs; allowed = tt }

abbrev reading : CellAccess
reading = record { kind = kind.Read; location = 0 }

abbrev writing : CellAccess
writing = record { kind = kind.Write; location = 0 }

spawned_follows : MayFollow one_cell [] (asked 0 Spawn (Split (record { child = 1; next = 2; join = 3; first = true })))
spawned_follows = record { runs = root_runs; in_range = tt; belongs = tt; allowed = split_allowed }

one_strand_judged : IsJudged one_cell one_strand
one_strand_judged =
    let before = asked 0 (Write 0 5) Granted ∷ [] in
    record {
      legal = ((tt, writes [] 0 root_runs 5 Granted tt), reads before 0 root_runs 5);
      memory = (
        (tt, write-granted [] 0 writing (free-at_first [] 0 writing)),
        read-granted before 0 reading (free-of_one [] 0 reading _ (λ at rule parallel. parallel.0 stay)) 5 refl,
      );
      reducers = ((tt, tt), tt);
    }

whole_run_judged : IsJudged one_cell whole_run
unfolding updated
whole_run_judged = record {
  legal = (
    (tt, record { runs = refl; in_range = tt; belongs = tt; allowed = sync_same refl tt }),
    record { runs = refl; in_range = tt; belongs = tt; allowed = root_return refl refl },
  );
  memory = ((tt, tt), tt);
  reducers = ((tt, tt), tt);
}

parallel_reads_judged : IsJudged one_cell parallel_reads
parallel_reads_judged =
    let before = asked 1 (Read 0) (Value 0) ∷ spawned in
    record {
      legal = (((tt, spawned_follows), reads spawned 1 child_runs 0), reads before 2 next_runs 0);
      memory = (
        ((tt, tt), read-granted spawned 1 reading (free-at_first first_spawn 1 reading) 0 refl),
        read-granted before 2 reading (free-of_one first_spawn 2 reading _ (λ at rule parallel. free_is_no_race rule)) 0 refl,
      );
      reducers = (((tt, tt), tt), tt);
    }

-- the child's read races with the next's write
read_races : Races first_spawn (granted parallel_reads) 0 kind.Write 2 (record { strand = 1; kind = kind.Read; location = 0; entry = 2 })
read_races = ((0, lit< tt, refl), refl, refl, examples_law.sides_parallel)

racing_write_judged : IsJudged one_cell (racing_write refused_by_read)
racing_write_judged = record {
  legal = (parallel_reads_judged.legal, writes parallel_reads 2 next_runs 9 refused_by_read tt);
  memory = (
    parallel_reads_judged.memory,
    record { refused = ((λ t. (_, read_races)), (λ race. tt)); witness = (read_races, refl); value = tt },
  );
  reducers = (parallel_reads_judged.reducers, tt);
}

-- and so does its write
write_races : Races first_spawn (granted (asked 1 (Write 0 5) Granted ∷ spawned)) 0 kind.Write 2 (record { strand = 1; kind = kind.Write; location = 0; entry = 2 })
write_races = ((0, lit< tt, refl), refl, refl, examples_law.sides_parallel)

read_behind_judged : IsJudged one_cell (read_behind (Value 5))
read_behind_judged =
    let first = asked 1 (Write 0 5) Granted ∷ spawned in
    let second = asked 2 (Write 0 6) refused_by_write ∷ first in
    record {
      legal = ((((tt, spawned_follows), writes spawned 1 child_runs 5 Granted tt), writes first 2 next_runs 6 refused_by_write tt), reads second 1 child_runs 5);
      memory = (
        (
          ((tt, tt), write-granted spawned 1 writing (free-at_first first_spawn 1 writing)),
          record { refused = ((λ t. (_, write_races)), (λ race. tt)); witness = (write_races, refl); value = tt },
        ),
        read-granted second 1 reading (free-of_one first_spawn 1 reading _ (λ at rule parallel. parallel.0 stay)) 5 refl,
      );
      reducers = ((((tt, tt), tt), tt), tt);
    }

one_strand_clean : IsClean one_strand
one_strand_clean zero other below = tt
one_strand_clean (suc zero) other below = tt
one_strand_clean (suc (suc k)) other below = absurd (omega arith)

not_five : (value : ℕ) → value ≡ 5 → value ≡ 6 → ⊥
not_five value five six = absurd (omega arith)

pub worked_histories : WorkedHistories
worked_histories = record {
  one_strand_judged = one_strand_judged;
  one_strand_clean = one_strand_clean;
  whole_run_judged = whole_run_judged;
  whole_run_finished = tt;
  parallel_reads_judged = parallel_reads_judged;
  racing_write_judged = racing_write_judged;
  racing_write_not_clean = λ clean. clean 0 (asked 0 Spawn Granted) (lit< tt);
  racing_write_not_granted = λ judged. judged.memory.1.refused.1 (_, read_races);
  read_behind_judged = read_behind_judged;
  read_behind_not_done = λ judged. not_five 6 judged.memory.1.value refl;
}
