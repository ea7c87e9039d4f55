-- The spawn where two strands part.
use Rattle.std.specs.Prelude.{◌≡◌, ◌⊎◌, ℕ}
use Rattle.model_strands.specs.Dag.{Reaches}
use Rattle.model_histories.specs.Entries.{Entries, control_part}
use Rattle.race_pairs.specs.declared.lineage.Parting.{Parting}
use Rattle.race_pairs.specs.Makers.{IsSpawn}

-- the spawn is one of the entries, its child reaches the one of the two strands and its next the other, and neither the other way round
pub record IsParting (entries : Entries) (strand other : ℕ) (parting : Parting) : Type 0 where
  pub spawn : IsSpawn entries parting.entry parting.spawner parting.spawned
  pub sides : ((parting.by_child ≡ strand) × (parting.by_next ≡ other)) ⊎ ((parting.by_child ≡ other) × (parting.by_next ≡ strand))
  pub child_reaches : Reaches (control_part entries) parting.spawned.child parting.by_child
  pub next_reaches : Reaches (control_part entries) parting.spawned.next parting.by_next
  pub child_misses : Reaches (control_part entries) parting.spawned.child parting.by_next → ⊥
  pub next_misses : Reaches (control_part entries) parting.spawned.next parting.by_child → ⊥
