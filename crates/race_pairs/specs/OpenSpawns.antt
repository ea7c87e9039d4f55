-- A spawn that is outstanding at one of two strands and not at the other.
use Rattle.std.specs.Prelude.{◌≡◌, ◌⊎◌, ℕ}
use Rattle.model_strands.specs.Strands.{Begun}
use Rattle.model_strands.specs.Dag.{IsParallel}
use Rattle.model_strands.specs.declared.spawned.Spawned.{Spawned}
use Rattle.model_histories.specs.Entries.{Entries, control_part}
use Rattle.race_pairs.specs.declared.lineage.OpenSpawn.{OpenSpawn}
use Rattle.race_pairs.specs.Makers.{IsSpawn}

-- the one of the child and the next of a spawn, where the strand is the other
abbrev pub IsOpposite : Spawned → ℕ → ℕ → Type 0
IsOpposite spawned strand peer = ((strand ≡ spawned.child) × (peer ≡ spawned.next)) ⊎ ((strand ≡ spawned.next) × (peer ≡ spawned.child))

-- the strand is neither
abbrev pub IsNeither : Spawned → ℕ → Type 0
IsNeither spawned strand = (strand ≡ spawned.child → ⊥) × (strand ≡ spawned.next → ⊥)

-- The spawn is one of the entries. One of the two strands that it began, its child or its next, is a peer of one of the two strands and
-- none of the other's.
pub record IsOutstanding (entries : Entries) (first second : ℕ) (found : OpenSpawn) : Type 0 where
  pub spawn : IsSpawn entries found.entry found.spawner found.spawned
  pub side : (found.peer ≡ found.spawned.child) ⊎ (found.peer ≡ found.spawned.next)
  pub strands : ((found.parallel ≡ first) × (found.ordered ≡ second)) ⊎ ((found.parallel ≡ second) × (found.ordered ≡ first))
  pub begun : Begun (control_part entries) found.peer
  pub parallel_to : IsParallel (control_part entries) found.parallel found.peer
  pub ordered_with : IsParallel (control_part entries) found.ordered found.peer → ⊥
