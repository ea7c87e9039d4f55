-- What holds of the reads that were granted.
use Rattle.std.specs.Prelude.{◌≡◌, ◌++◌, ◌∷◌, [], ℕ, List}
use Rattle.model_strands.specs.History.{History}
use Rattle.model_strands.specs.Strands.{Begun}
use Rattle.model_strands.specs.Legal.{Legal}
use Rattle.model_strands.specs.Extensions.{Extends}
use Rattle.law_strands.specs.Branches.{branch}
use Rattle.model_accesses.specs.Reads.{ReducerRead, IsReadOf}
use Rattle.view_read_rule.specs.Reads.{AreOfOneBranch}

-- no read at first, and then one more of a begun strand, which is of another reducer or has the branch of all reads of this one
abbrev pub AddedLaw : Type 0
AddedLaw =
    ((history : History) (reducer : ℕ) → AreOfOneBranch history [] reducer) ×
    ((history : History) (reads : List ReducerRead) (reducer : ℕ) (read : ReducerRead) →
    AreOfOneBranch history reads reducer → Begun history read.strand →
    (read.reducer ≡ reducer → (other : ReducerRead) → IsReadOf reads reducer other →
    branch history other.strand ≡ branch history read.strand) →
    AreOfOneBranch history (reads ++ read ∷ []) reducer)

-- later events change nothing
abbrev pub LaterLaw : Type 0
LaterLaw =
    (history longer : History) → Extends longer history → Legal longer → (reads : List ReducerRead) (reducer : ℕ) →
    AreOfOneBranch history reads reducer → AreOfOneBranch longer reads reducer
