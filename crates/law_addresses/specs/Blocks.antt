-- The strands of a block, by their addresses: its spawners, the strand that syncs, and the last strands of its children.
use Rattle.std.specs.Prelude.{◌≡◌, ◌≢◌, ℕ, List, [], ◌∷◌, ◌++◌, replicate, Contains}
use Rattle.model_strands.specs.Address.{Address, child, next, join, extended}
use Rattle.law_addresses.specs.Address.{IsPrefix}

-- a strand that goes on from another through the joins of so many blocks
abbrev pub joined : Address → ℕ → Address
joined a blocks = a ++ replicate blocks join

-- from start on the spawners follow one another up to end, each behind the joins of blocks in between
abbrev pub IsChain : Address → List Address → Address → Type 0
IsChain start [] end = start ≡ end
IsChain start (spawner ∷ spawners) end = (start ≡ spawner) × (blocks : ℕ) × IsChain (joined (extended spawner next) blocks) spawners end

-- the last strand of a child goes on from its first through the joins of some blocks
abbrev pub IsLastOfChild : Address → Address → Type 0
IsLastOfChild spawner last = (blocks : ℕ) × (last ≡ joined (extended spawner child) blocks)

-- b begins with a and is longer
abbrev pub IsBeyond : Address → Address → Type 0
IsBeyond a b = IsPrefix a b × (b ≢ a)

-- the strands of a block whose join is about to begin
pub record Block : Type 0 where
  -- whose spawn opened it
  pub opener : Address
  -- the later spawners, in order
  pub spawners : List Address
  -- whose sync ends it
  pub syncing : Address
  -- the last strand of the child of each spawner
  pub last : Address → Address

-- the opener and the later spawners
abbrev pub all_spawners : Block → List Address
all_spawners block = block.opener ∷ block.spawners

-- these are the strands of one block
pub record IsBlock (block : Block) : Type 0 where
  pub chain : IsChain block.opener (all_spawners block) block.syncing
  pub lasts : (spawner : Address) → Contains (all_spawners block) spawner → IsLastOfChild spawner (block.last spawner)

-- a strand that begins before the join: it is neither beyond a strand that the join waits for nor behind a join of a spawner
pub record IsOlder (block : Block) (strand : Address) : Type 0 where
  pub not_beyond_syncing : IsBeyond block.syncing strand → ⊥
  pub not_beyond_last : (spawner : Address) → Contains (all_spawners block) spawner → IsBeyond (block.last spawner) strand → ⊥
  pub not_behind_join : (spawner : Address) → Contains (all_spawners block) spawner → IsPrefix (extended spawner join) strand → ⊥
