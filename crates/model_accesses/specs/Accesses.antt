-- Accesses of shared memory, and which of them race with a new one (Feng and Leiserson 1997).
use Rattle.std.specs.Prelude.{◌≡◌, ℕ, List, Contains}
use Rattle.model_accesses.specs.declared.kind.Kind.{Kind}
use Rattle.model_accesses.specs.declared.kind.Rule.TheVariants.{Race}
use Rattle.model_accesses.specs.Table.{rule_between}
use Rattle.model_strands.specs.History.{History}
use Rattle.model_strands.specs.Dag.{IsParallel}
use Rattle.model_accesses.specs.declared.witness.Witness.{Witness}

-- a granted access: its strand, its kind, its location, and the number of its entry in the history
pub record Access : Type 0 where
  pub strand : ℕ
  pub kind : Kind
  pub location : ℕ
  pub entry : ℕ

-- an access of the list races with a new one of this location, kind and strand: it is of the same location, its kind conflicts, and its
-- strand is parallel
abbrev pub Races : History → List Access → ℕ → Kind → ℕ → Access → Type 0
Races history accesses location kind strand access =
    Contains accesses access × (access.location ≡ location)
    × (rule_between access.kind kind ≡ Race) × IsParallel history access.strand strand

-- the access that a witness names
abbrev pub access_of_witness : ℕ → Witness → Access
access_of_witness location witness = record { strand = witness.strand; kind = witness.kind; location = location; entry = witness.entry }
