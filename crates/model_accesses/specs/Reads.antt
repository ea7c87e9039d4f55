-- Reads of reducers, and which of them are of strands with other peers than a new one (Lee and Schardl 2015).
use Rattle.std.specs.Prelude.{◌≡◌, ℕ, List, Contains}
use Rattle.model_accesses.specs.declared.kind.Kind.{Kind}
use Rattle.model_strands.specs.History.{History}
use Rattle.model_strands.specs.Peers.{HaveSamePeers}
use Rattle.model_accesses.specs.declared.witness.Witness.{Witness}

-- a granted put or get: its reducer, its kind, its strand, and the number of its entry in the history
pub record ReducerRead : Type 0 where
  pub reducer : ℕ
  pub kind : Kind
  pub strand : ℕ
  pub entry : ℕ

-- the read as a witness
abbrev pub witness_of : ReducerRead → Witness
witness_of read = record { entry = read.entry; strand = read.strand; kind = read.kind }

-- the read is one of the reads, and of this reducer
abbrev pub IsReadOf : List ReducerRead → ℕ → ReducerRead → Type 0
IsReadOf reads reducer read = Contains reads read × (read.reducer ≡ reducer)

-- the read's strand has other peers than this one
abbrev pub HasOtherPeers : History → ℕ → ReducerRead → Type 0
HasOtherPeers history strand read = HaveSamePeers history read.strand strand → ⊥
