-- Accesses of one location, and which of them race with a new one (Feng and Leiserson 1997).
use Rattle.std.specs.Prelude.{ℕ, IsTrue}
use Rattle.model_serial_runs.specs.declared.access_kind.AccessKind.{AccessKind}
use Rattle.model_serial_runs.specs.Conflicts.{conflict}
use Rattle.model_strands.specs.History.{History}
use Rattle.model_strands.specs.Dag.{IsParallel}

-- an access: its strand, its place in the program, as a number, and its kind
pub record Access : Type 0 where
  pub strand : ℕ
  pub site : ℕ
  pub kind : AccessKind

-- the earlier access races with a new one of the same location, of this strand and this kind
abbrev pub Races : History → ℕ → AccessKind → Access → Type 0
Races history strand kind access = IsTrue (conflict access.kind kind) × IsParallel history access.strand strand
