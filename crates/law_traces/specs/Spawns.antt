-- A history and one in which a spawn is left out: the addresses of the strands that remain.
use Rattle.std.specs.Prelude.{◌≡◌, ◌≢◌, ◌⊎◌, ℕ, suc, false, [], ◌∷◌, ◌++◌, None, cond, replicate}
use Rattle.model_accesses.specs.declared.kind.Kind.{Kind}
use Rattle.model_accesses.specs.Asking.{access_asked}
use Rattle.model_strands.specs.Address.{Address, child, next, join, extended, same_word}
use Rattle.model_strands.specs.Addresses.{address}
use Rattle.model_strands.specs.History.{split, History}
use Rattle.model_strands.specs.Strands.{Begun}
use Rattle.model_strands.specs.Dag.{Arrives}
use Rattle.law_addresses.specs.Address.{IsPrefix}
use Rattle.law_addresses.specs.Blocks.{joined}
use Rattle.model_histories.specs.declared.answer.Entry.{Entry}
use Rattle.model_histories.specs.Entries.{Entries, control_part}
use Rattle.law_traces.specs.Sets.{AccessesAt}

-- An address without the spawn at the spawner's: the spawner itself goes on where its next did. Where the join of the block began that the
-- spawn opened, it goes on through the joins of so many blocks: those that it has opened and closed, in functions that it called, up to where
-- it ends the block, or up to where it spawns in it once more, and then one more: this spawn opens the block now.
abbrev pub renamed : Address → ℕ → Address → Address
renamed [] blocks (next ∷ rest) = rest
renamed [] blocks (join ∷ rest) = replicate blocks join ++ rest
renamed [] blocks at = at
renamed (word ∷ spawner) blocks [] = []
renamed (word ∷ spawner) blocks (other ∷ at) = cond (same_word word other) (other ∷ renamed spawner blocks at) (other ∷ at)

-- the strand spawned in a block that was open
abbrev pub SpawnsWithin : History → ℕ → Type 0
SpawnsWithin [] strand = ⊥
SpawnsWithin (split spawner the_child the_next the_join false ∷ history) strand = (strand ≡ spawner) ⊎ SpawnsWithin history strand
SpawnsWithin (_ ∷ history) strand = SpawnsWithin history strand

-- The number of blocks fits the history: behind so many joins the spawner's function ends its block; or behind one less it spawns in the block
-- once more; or no strand has begun at the join of a block that the spawn opened, as where it opened none, and the number is of no matter.
abbrev pub GoesThrough : History → Address → ℕ → Type 0
GoesThrough history spawner blocks =
    ((strand its_join : ℕ) × (address history strand ≡ joined (extended spawner next) blocks) × Arrives history strand its_join) ⊎
    ((strand before : ℕ) × (blocks ≡ suc before) × (address history strand ≡ joined (extended spawner next) before) × SpawnsWithin history strand) ⊎
    ((strand : ℕ) → Begun history strand → address history strand ≢ extended spawner join)

-- the address is one of the spawned function's
abbrev pub IsSpawned : Address → Address → Type 0
IsSpawned spawner at = IsPrefix (extended spawner child) at

-- The second history asks what the first asks, in the same order, by the strands at the addresses without the spawn, but for some requests
-- that are no accesses: the spawn, what the spawned function asked for, and a sync that has nothing left to wait for.
pub data LeavesOutSpawn (spawner : Address) (blocks : ℕ) : Entries → Entries → Type 0 where
  nothing : LeavesOutSpawn spawner blocks [] []
  keeps : {whole kept : Entries} {entry other : Entry} → LeavesOutSpawn spawner blocks whole kept → entry.request.act ≡ other.request.act →
      address (control_part kept) other.request.strand ≡ renamed spawner blocks (address (control_part whole) entry.request.strand) →
      LeavesOutSpawn spawner blocks (entry ∷ whole) (other ∷ kept)
  omits : {whole kept : Entries} {entry : Entry} → LeavesOutSpawn spawner blocks whole kept → access_asked entry.request.act ≡ None →
      LeavesOutSpawn spawner blocks (entry ∷ whole) kept

-- the spawned function accesses no cell
abbrev pub IsEmpty : Entries → Address → Type 0
IsEmpty entries spawner = (at : Address) (kind : Kind) (cell : ℕ) → AccessesAt entries at kind cell → IsSpawned spawner at → ⊥
