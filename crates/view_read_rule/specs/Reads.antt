-- Reads of reducers by branches, and what is kept of them.
use Rattle.std.specs.Prelude.{◌≡◌, ◌≢◌, ◌==◌, ◌<◌, ℕ, List, length, Option, None, Contains, slice_index_or}
use Rattle.std.specs.List.{find}
use Rattle.std.specs.Option.{option_map}
use Rattle.model_accesses.specs.Reads.{ReducerRead, witness_of, IsReadOf}
use Rattle.model_strands.specs.History.{History}
use Rattle.model_strands.specs.Strands.{Begun}
use Rattle.law_strands.specs.Branches.{branch}
use Rattle.branch_names.specs.Names.{Names, IsNamed}
use Rattle.model_accesses.specs.declared.witness.Witness.{Witness}

-- the first of the reads that is of the reducer
abbrev pub first_read : List ReducerRead → ℕ → Option ReducerRead
first_read reads reducer = find (λ read. read.reducer == reducer) reads

-- the read's strand and this one have one branch
abbrev pub IsOfBranch : History → ℕ → ReducerRead → Type 0
IsOfBranch history strand read = branch history read.strand ≡ branch history strand

abbrev pub IsOfOtherBranch : History → ℕ → ReducerRead → Type 0
IsOfOtherBranch history strand read = branch history read.strand ≢ branch history strand

-- of each reducer the first of these reads is kept
pub record Remembers (firsts : List (Option Witness)) (reads : List ReducerRead) : Type 0 where
  pub kept : (reducer : ℕ) → reducer < length firsts → slice_index_or firsts reducer None ≡ option_map witness_of (first_read reads reducer)

-- the branches are those of the strands whose reads were taken in
abbrev pub StandsOn : List (Option Witness) → Names → Type 0
StandsOn firsts branches =
    (reads : List ReducerRead) × Remembers firsts reads × ((read : ReducerRead) → Contains reads read → IsNamed branches read.strand)

-- the reads of the reducer are of begun strands with one branch, as those that were granted
pub record AreOfOneBranch (history : History) (reads : List ReducerRead) (reducer : ℕ) : Type 0 where
  pub begun : (read : ReducerRead) → IsReadOf reads reducer read → Begun history read.strand
  pub one_branch : (first second : ReducerRead) →
      IsReadOf reads reducer first → IsReadOf reads reducer second → branch history first.strand ≡ branch history second.strand
