-- What is kept of the reads of reducers.
use Rattle.std.specs.Prelude.{◌≡◌, ◌≢◌, ℕ, List, Option, Contains, MatchOption, slice_index_or}
use Rattle.law_strands.specs.Branches.{Branch}
use Rattle.model_serial_runs.specs.ReducerReads.{ReducerRead}
use Rattle.serial_judge.specs.declared.reads.Read.{Read}
use Rattle.serial_judge.specs.declared.reads.Reads.{Reads}
use Rattle.serial_judge.specs.declared.reads.Reads.TheVariants as reads
use Rattle.serial_judge.specs.Branches.{number_of}

abbrev pub reads_at : List Reads → ℕ → Reads
reads_at kept reducer = slice_index_or kept reducer reads.None

-- the read is one of the reads, of this reducer, and its strand has the branch
pub record IsKeptRead (branch : ℕ → Branch) (all : List ReducerRead) (reducer : ℕ) (kept : Read) : Type 0 where
  pub read : ReducerRead
  pub listed : Contains all read
  pub reducer_is : read.reducer ≡ reducer
  pub site_is : read.site ≡ kept.site
  pub branch_is : number_of (branch read.strand) ≡ kept.branch

-- what is kept of the reads of a reducer
abbrev pub AreKeptReads : (ℕ → Branch) → List ReducerRead → ℕ → Reads → Type 0
AreKeptReads branch all reducer reads.None = (read : ReducerRead) → Contains all read → read.reducer ≡ reducer → ⊥
AreKeptReads branch all reducer (reads.OneBranch first) =
    IsKeptRead branch all reducer first ×
    ((read : ReducerRead) → Contains all read → read.reducer ≡ reducer → number_of (branch read.strand) ≡ first.branch)
AreKeptReads branch all reducer (reads.TwoBranches first second) =
    IsKeptRead branch all reducer first × IsKeptRead branch all reducer second × (first.branch ≢ second.branch)

-- the read is of this reducer, and what is kept of it are its site and its branch
pub record IsReadSo (branch : ℕ → Branch) (reducer : ℕ) (kept : Read) (read : ReducerRead) : Type 0 where
  pub reducer_is : read.reducer ≡ reducer
  pub site_is : read.site ≡ kept.site
  pub branch_is : number_of (branch read.strand) ≡ kept.branch

-- it is one of the reads of this reducer, and of another branch than this one; and where there is none, all are of this one
abbrev pub IsOtherBranch : (ℕ → Branch) → List ReducerRead → ℕ → ℕ → Option Read → Type 0
IsOtherBranch branch all reducer wanted answer =
    MatchOption answer
    ((read : ReducerRead) → Contains all read → read.reducer ≡ reducer → number_of (branch read.strand) ≡ wanted)
    (λ kept. IsKeptRead branch all reducer kept × (kept.branch ≢ wanted))
