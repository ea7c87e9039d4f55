-- Which runs a judge follows.
use Rattle.std.specs.Prelude.{◌≡◌, ◌≤◌, ℕ, suc, length, Some, Contains}
use Rattle.std.specs.List.{AllZip}
use Rattle.model_strands.specs.Strands.{unused}
use Rattle.model_strands.specs.Addresses.{address}
use Rattle.model_strands.specs.Legal.{Legal}
use Rattle.model_strands.specs.Extensions.{IsFinished}
use Rattle.law_strands.specs.Branches.{branch}
use Rattle.law_serial_runs.specs.Turns.{HasRun}
use Rattle.model_serial_runs.specs.Accesses.{Access}
use Rattle.model_serial_runs.specs.Current.{current, IsSerial}
use Rattle.model_serial_runs.specs.ReducerReads.{ReducerRead}
use Rattle.serial_judge.specs.declared.records.Record.{Record}
use Rattle.law_serial_runs.specs.Frames.{frames}
use Rattle.serial_judge.specs.Branches.{number_of}
use Rattle.serial_judge.specs.Judge.{Judge}
use Rattle.serial_judge.specs.Reads.{reads_at, AreKeptReads}
use Rattle.serial_judge.specs.Numbers.{numbered}
use Rattle.serial_judge.specs.Runs.{Run}
use Rattle.serial_judge.specs.Scopes.{Sight, AreParallel, AreScopes, AreNested, IsBranch}
use Rattle.serial_judge.specs.Spans.{is_held, IsAscending}

-- what is looked at of a run
abbrev pub sight_of : Run → Sight
sight_of run = record {
  address = address run.history;
  branch = branch run.history;
  unused = unused run.history;
  records = run.records;
}

-- the record is that of the access
abbrev pub IsRecordOf : Record → Access → Type 0
IsRecordOf made access = (made.site ≡ access.site) × (made.kind ≡ access.kind)

-- the judge was told of this run
pub record Follows (judge : Judge) (run : Run) : Type 0 where
  pub legal : Legal run.history
  pub serial : IsSerial run.history
  pub unfinished : IsFinished run.history → ⊥
  pub events : judge.events ≡ length run.history
  pub recorded : AllZip IsRecordOf judge.records run.records
  -- the run has been at the strand of each record
  pub has_run : (number : ℕ) (access : Access) → numbered run.records number ≡ Some access → HasRun run.history access.strand
  -- from the first of the running strand on, the records are its own
  pub own : (number : ℕ) (access : Access) → numbered run.records number ≡ Some access → judge.first ≤ number →
      access.strand ≡ current run.history
  pub first : (1 ≤ judge.first) × (judge.first ≤ suc (length run.records))
  -- those of strands that are parallel to it are in the spans
  pub parallel : AreParallel (sight_of run) (current run.history) (is_held judge.spans)
  pub ascending : IsAscending 1 judge.spans (suc (length run.records))
  pub scopes : AreScopes (sight_of run) judge.spans judge.scopes (frames run.history)
  pub nested : AreNested (length judge.spans) judge.scopes
  pub branch_is : IsBranch (number_of (branch run.history (current run.history))) judge.scopes
  pub readers : (read : ReducerRead) → Contains run.reads read → HasRun run.history read.strand
  pub reads : (reducer : ℕ) → AreKeptReads (branch run.history) run.reads reducer (reads_at judge.reads reducer)

-- it follows some run
abbrev pub FollowsSome : Judge → Type 0
FollowsSome judge = (run : Run) × Follows judge run
