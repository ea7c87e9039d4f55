-- Worked histories of one cell, the newest entry first, and what they show.
use Rattle.std.specs.Prelude.{ℕ, true, [], ◌∷◌}
use Rattle.model_accesses.specs.declared.kind.Kind.TheVariants as kind
use Rattle.model_accesses.specs.declared.kind.Rule.TheVariants.{Race}
use Rattle.model_accesses.specs.declared.request.Act.{Act}
use Rattle.model_accesses.specs.declared.request.Act.TheVariants.{Spawn, Sync, Return, Read, Write}
use Rattle.model_histories.specs.declared.answer.Answer.{Answer}
use Rattle.model_histories.specs.declared.answer.Answer.TheVariants.{Split, Same, Finished, Granted, Value, Refused}
use Rattle.model_histories.specs.declared.answer.Entry.{Entry}
use Rattle.model_histories.specs.Entries.{Entries}
use Rattle.model_histories.specs.Shapes.{Shape}
use Rattle.model_races.specs.Judged.{IsJudged}
use Rattle.model_histories.specs.Extensions.{IsFinished, IsClean}

abbrev pub one_cell : Shape
one_cell = record { cells = 1; monoids = [] }

-- the strand's act on line 1 and its answer
abbrev pub asked : ℕ → Act → Answer → Entry
asked strand act answer = record { request = record { strand = strand; act = act; line = 1 }; answer = answer }

-- a strand reads what it wrote
abbrev pub one_strand : Entries
one_strand = asked 0 (Read 0) (Value 5) ∷ asked 0 (Write 0 5) Granted ∷ []

-- the root function ends
abbrev pub whole_run : Entries
whole_run = asked 0 Return Finished ∷ asked 0 Sync Same ∷ []

-- the root function spawns
abbrev pub spawned : Entries
spawned = asked 0 Spawn (Split (record { child = 1; next = 2; join = 3; first = true })) ∷ []

-- the child and the next both read
abbrev pub parallel_reads : Entries
parallel_reads = asked 2 (Read 0) (Value 0) ∷ asked 1 (Read 0) (Value 0) ∷ spawned

-- a write by the next races with the child's read
abbrev pub racing_write : Answer → Entries
racing_write answer = asked 2 (Write 0 9) answer ∷ parallel_reads

abbrev pub refused_by_read : Answer
refused_by_read = Refused Race (record { entry = 2; strand = 1; kind = kind.Read })

abbrev pub refused_by_write : Answer
refused_by_write = Refused Race (record { entry = 2; strand = 1; kind = kind.Write })

-- the child reads behind its own write and the next's refused one
abbrev pub read_behind : Answer → Entries
read_behind answer =
    asked 1 (Read 0) answer ∷ asked 2 (Write 0 6) refused_by_write ∷ asked 1 (Write 0 5) Granted ∷ spawned

-- what the worked histories show
pub record WorkedHistories : Type 0 where
  -- a value goes from a write to a read of one strand, and nothing is refused
  pub one_strand_judged : IsJudged one_cell one_strand
  pub one_strand_clean : IsClean one_strand
  -- a run of the root function alone
  pub whole_run_judged : IsJudged one_cell whole_run
  pub whole_run_finished : IsFinished whole_run
  -- parallel reads are granted, and a parallel write is refused and not granted
  pub parallel_reads_judged : IsJudged one_cell parallel_reads
  pub racing_write_judged : IsJudged one_cell (racing_write refused_by_read)
  pub racing_write_not_clean : IsClean (racing_write refused_by_read) → ⊥
  pub racing_write_not_granted : IsJudged one_cell (racing_write Granted) → ⊥
  -- a refused write leaves the value that was granted
  pub read_behind_judged : IsJudged one_cell (read_behind (Value 5))
  pub read_behind_not_done : IsJudged one_cell (read_behind (Value 6)) → ⊥
