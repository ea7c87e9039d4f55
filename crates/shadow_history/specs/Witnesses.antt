-- Which of the accesses that race with a new one is the witness.
use Rattle.std.specs.Prelude.{◌≡◌, ◌⊎◌, ◌≤◌, ℕ, List}
use Rattle.model_accesses.specs.Accesses.{access_of_witness, Access, Races}
use Rattle.model_accesses.specs.declared.kind.Kind.{Kind}
use Rattle.model_accesses.specs.declared.kind.Kind.TheVariants.{Write, Bump, Read, Update, Put, Get}
use Rattle.law_addresses.specs.Address.{english, hebrew}
use Rattle.model_strands.specs.History.{History}
use Rattle.model_strands.specs.Dag.{IsParallel}
use Rattle.model_accesses.specs.declared.witness.Witness.{Witness}
use Rattle.shadow_history.specs.Accesses.{IsAdded, IsExtreme}

-- the place of a kind in the access table
abbrev pub place : Kind → ℕ
place Write = 0
place Bump = 1
place Read = 2
place Update = 3
place Put = 4
place Get = 5

-- of this location and kind no access of the list is of a strand parallel to this one
abbrev pub NoneIsParallel : History → List Access → ℕ → Kind → ℕ → Type 0
NoneIsParallel history accesses location kind strand =
    (access : Access) → IsAdded accesses location kind access → IsParallel history access.strand strand → ⊥

-- the access is parallel to the strand, and among those of its location and kind it is the English-last, or the Hebrew-last where the
-- English-last is not parallel
pub record IsLatestParallel (history : History) (accesses : List Access) (strand : ℕ) (access : Access) : Type 0 where
  pub parallel : IsParallel history access.strand strand
  pub extreme :
      IsExtreme english history accesses access ⊎
      (((other : Access) → other.location ≡ access.location → other.kind ≡ access.kind →
      IsExtreme english history accesses other → IsParallel history other.strand strand → ⊥) ×
      IsExtreme hebrew history accesses access)

-- the access races, no other that races is of an earlier kind of the table, and among those of its kind it is the latest parallel one
pub record IsWitness (history : History) (accesses : List Access)
    (location : ℕ) (kind : Kind) (strand : ℕ) (witness : Witness) : Type 0 where
  pub races : Races history accesses location kind strand (access_of_witness location witness)
  pub first_kind : (access : Access) → Races history accesses location kind strand access → place witness.kind ≤ place access.kind
  pub latest : IsLatestParallel history accesses strand (access_of_witness location witness)
