-- Functions and blocks: where a strand stands, and which children of a block are outstanding.
use Rattle.std.specs.Prelude.{◌≡◌, ◌≢◌, ◌⊎◌, ℕ, suc, true, false, [], ◌∷◌, length, Option, Some, None}
use Rattle.model_strands.specs.Updated.{updated}
use Rattle.model_strands.specs.History.{split, waits, call, resumed, ended, ended_joined, History}

-- Where a strand stands, innermost first: the functions that it is in, and the open block of each.
pub data Stack : Type 0 where
  -- in the root function
  root : Stack
  -- in a spawned function, by the number of its split and by the join of the block that it is a child of
  spawned : (number block : ℕ) → Stack
  -- in a called function, by the number of its call
  called : (number : ℕ) → (below : Stack) → Stack
  -- in an open block, by its join
  block : (join : ℕ) → (below : Stack) → Stack

-- where a called function returns to
abbrev pub caller : Stack → Stack
caller (called number below) = below
caller stack = stack

-- A child stands in the spawned function, its next in the spawner's block, and a join where the first spawner of its block stood.
abbrev pub stack : History → ℕ → Stack
stack [] = λ strand. root
stack (split strand child next join true ∷ history) =
    updated (updated (updated (stack history) child (spawned (suc (length history)) join)) next (block join (stack history strand)))
    join (stack history strand)
stack (split strand child next join false ∷ history) =
    updated (updated (stack history) child (spawned (suc (length history)) join)) next (stack history strand)
stack (call strand ∷ history) = updated (stack history) strand (called (suc (length history)) (stack history strand))
stack (resumed strand ∷ history) = updated (stack history) strand (caller (stack history strand))
stack (_ ∷ history) = stack history

-- the innermost block round a strand: an open one, or that of which its spawned function is a child
abbrev pub enclosing : Stack → Option ℕ
enclosing root = None
enclosing (spawned number join) = Some join
enclosing (called number below) = enclosing below
enclosing (block join below) = Some join

-- the innermost function has no open block
abbrev pub IsSynced : Stack → Type 0
IsSynced (block join below) = ⊥
IsSynced _ = Unit {0}

-- the function that this split spawned is a child of the join's block and has not returned
abbrev pub Outstanding : History → ℕ → ℕ → Type 0
Outstanding [] number join = ⊥
Outstanding (split strand child next own first ∷ history) number join =
    (number ≡ suc (length history)) × (join ≡ own) ⊎ Outstanding history number join
Outstanding (ended strand ∷ history) number join = (stack history strand ≢ spawned number join) × Outstanding history number join
Outstanding (ended_joined strand own ∷ history) number join = (stack history strand ≢ spawned number join) × Outstanding history number join
Outstanding (_ ∷ history) number join = Outstanding history number join

-- a sync of the join's block was answered that it waits
abbrev pub IsWaitedFor : History → ℕ → Type 0
IsWaitedFor [] join = ⊥
IsWaitedFor (waits strand ∷ history) join = (enclosing (stack history strand) ≡ Some join) ⊎ IsWaitedFor history join
IsWaitedFor (_ ∷ history) join = IsWaitedFor history join

-- the block's sync waits, and no other child of it is outstanding
abbrev pub IsLast : History → ℕ → ℕ → Type 0
IsLast history number join = IsWaitedFor history join × ((other : ℕ) → Outstanding history other join → other ≡ number)
