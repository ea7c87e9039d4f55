-- The spawns whose child has not returned, and those that an address passes.
use Rattle.std.specs.Prelude.{◌≡◌, ◌≢◌, ◌⊎◌, ℕ, suc, List, [], ◌∷◌, ◌++◌, length, map, Contains}
use Rattle.model_strands.specs.Address.{Address, child, next, join, extended}
use Rattle.model_strands.specs.Addresses.{address}
use Rattle.model_strands.specs.History.{Event, split, joined, ended, History}
use Rattle.model_strands.specs.Strands.{Running, Begun}
use Rattle.model_strands.specs.Blocks.{Stack, spawned, called, block, stack}
use Rattle.model_strands.specs.Dag.{IsParallel}
use Rattle.law_addresses.specs.Address.{IsPrefix, PartBy}
use Rattle.law_addresses.specs.Blocks.{joined as joined_address}
use Rattle.model_serial_runs.specs.Current.{current}

-- a spawn: the number of its split, the strand that spawned, the child, the next, and the join of the block
pub record Spawn : Type 0 where
  pub number : ℕ
  pub spawner : ℕ
  pub first_strand : ℕ
  pub next_strand : ℕ
  pub block_join : ℕ

abbrev pub without_first : List Spawn → List Spawn
without_first [] = []
without_first (spawn ∷ spawns) = spawns

-- the spawn that comes next in the history
abbrev pub new_spawn : History → (strand the_child the_next the_join : ℕ) → Spawn
new_spawn history strand the_child the_next the_join =
    record { number = suc (length history); spawner = strand; first_strand = the_child; next_strand = the_next; block_join = the_join }

-- the spawns whose child has not returned, in a serial run, the newest first
abbrev pub open_spawns : History → List Spawn
open_spawns [] = []
open_spawns (split strand the_child the_next the_join first ∷ history) = new_spawn history strand the_child the_next the_join ∷ open_spawns history
open_spawns (ended strand ∷ history) = without_first (open_spawns history)
open_spawns (_ ∷ history) = open_spawns history

-- where the two addresses part, the first goes on to a child and the second to its next
abbrev pub PartAtSpawn : Address → Address → Type 0
PartAtSpawn a b = PartBy (λ word other. (word ≡ child) × (other ≡ next)) a b

-- the strands at such an address are in the function that a strand at the spawner's address spawned, or in one that was spawned or called from there
abbrev pub IsInChild : Address → Address → Type 0
IsInChild spawner a = IsPrefix (extended spawner child) a

-- the spawners to whose next the address leads, the outermost first: those whose child has returned, and that no sync has followed, where a
-- serial run is at that address
abbrev pub passed_spawners : Address → List Address
passed_spawners [] = []
passed_spawners (next ∷ a) = [] ∷ map (λ spawner. next ∷ spawner) (passed_spawners a)
passed_spawners (word ∷ a) = map (λ spawner. word ∷ spawner) (passed_spawners a)

-- The child of the spawn has not returned.
pub record IsOpen (history : History) (spawn : Spawn) : Type 0 where
  -- the current strand is in it
  pub inside : IsInChild (address history spawn.spawner) (address history (current history))
  -- the next has begun, and will go on as it stands
  pub waits : Running history spawn.next_strand
  pub not_current : spawn.next_strand ≢ current history
  pub next_address : address history spawn.next_strand ≡ extended (address history spawn.spawner) next
  pub begun : Begun history spawn.spawner
  pub parallel : IsParallel history (current history) spawn.next_strand

-- who stands there is in the join's block, in the function itself or in one that called it
abbrev pub IsInBlock : Stack → ℕ → Type 0
IsInBlock (block own below) the_join = (the_join ≡ own) ⊎ IsInBlock below the_join
IsInBlock (called number below) the_join = IsInBlock below the_join
IsInBlock stack the_join = ⊥

-- the current strand is in the block, or the next of a spawn whose child has not returned is
abbrev pub IsOpenBlock : History → ℕ → Type 0
IsOpenBlock history the_join =
    IsInBlock (stack history (current history)) the_join ⊎
    ((spawn : Spawn) × Contains (open_spawns history) spawn × IsInBlock (stack history spawn.next_strand) the_join)

-- A child returns by this strand.
pub record Returns (history : History) (strand : ℕ) : Type 0 where
  -- it is that of the newest spawn whose child has not returned
  pub spawn : Spawn
  pub others : List Spawn
  pub newest : open_spawns history ≡ spawn ∷ others
  pub stack_is : stack history strand ≡ spawned spawn.number spawn.block_join
  -- the run goes on beside it, at a strand that has begun before
  pub goes_on : current (ended strand ∷ history) ≡ spawn.next_strand
  pub waited : Running history spawn.next_strand
  pub next_address : address history spawn.next_strand ≡ extended (address history spawn.spawner) next
  -- the strand that returns goes on from the child through the joins of some blocks
  pub blocks : ℕ
  pub last_address : address history strand ≡ joined_address (extended (address history spawn.spawner) child) blocks

-- A block ends by a sync of this strand.
pub record Ends (history : History) (strand the_join : ℕ) : Type 0 where
  -- the strand that opened the block
  pub opener : Address
  pub join_address : address history the_join ≡ extended opener join
  -- the sync comes behind its next
  pub behind_next : IsPrefix (extended opener next) (address history strand)
  pub rest : List Address
  pub passed : passed_spawners (address history strand) ≡ passed_spawners (address history the_join) ++ opener ∷ rest

-- what the event does to the spawners that the current strand has passed
abbrev pub IsPassing : History → Event → Type 0
IsPassing history (split strand the_child the_next the_join first) =
    passed_spawners (address (split strand the_child the_next the_join first ∷ history) the_child) ≡ passed_spawners (address history strand)
IsPassing history (ended strand) =
    (returns : Returns history strand) ×
    (passed_spawners (address history returns.spawn.next_strand) ≡
    passed_spawners (address history strand) ++ address history returns.spawn.spawner ∷ [])
IsPassing history (joined strand the_join) = Ends history strand the_join
IsPassing history event = current (event ∷ history) ≡ current history
