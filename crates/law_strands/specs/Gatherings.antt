-- What a join gathers: the last strands of its block's children, in order of spawning, and then the strand that ended the block by its
-- sync.
use Rattle.std.specs.Prelude.{◌≡◌, ◌↔◌, ℕ, suc, List, [], ◌∷◌, ◌++◌, map, length, Option, Some, None, Contains, AllPairs}
use Rattle.model_strands.specs.Updated.{updated}
use Rattle.model_strands.specs.History.{Event, split, joined, waits, ended, ended_joined, History}
use Rattle.model_strands.specs.Blocks.{Stack, spawned, stack, enclosing}
use Rattle.model_strands.specs.Dag.{Arrives}
use Rattle.law_strands.specs.Addresses.{IsEnglishBefore}

-- the children of a block, by the numbers of their splits, in order of spawning
abbrev pub children : History → ℕ → List ℕ
children [] = λ join. []
children (split strand child next join first ∷ history) =
    updated (children history) join (children history join ++ (suc (length history) ∷ []))
children (_ ∷ history) = children history

-- the strand is the last one of the spawned function in which it stands
abbrev pub returned_by : Stack → ℕ → (ℕ → ℕ) → ℕ → ℕ
returned_by (spawned number join) strand strands = updated strands number strand
returned_by _ strand strands = strands

-- the strand with which a spawned function returned, by the number of its split
abbrev pub last_strand : History → ℕ → ℕ
last_strand [] = λ number. 0
last_strand (ended strand ∷ history) = returned_by (stack history strand) strand (last_strand history)
last_strand (ended_joined strand join ∷ history) = returned_by (stack history strand) strand (last_strand history)
last_strand (_ ∷ history) = last_strand history

-- the strand ended this block by its sync
abbrev pub synced_by : Option ℕ → ℕ → (ℕ → ℕ) → ℕ → ℕ
synced_by (Some join) strand strands = updated strands join strand
synced_by None strand strands = strands

-- the strand that ended a block by its sync
abbrev pub syncing_strand : History → ℕ → ℕ
syncing_strand [] = λ join. 0
syncing_strand (joined strand join ∷ history) = updated (syncing_strand history) join strand
syncing_strand (waits strand ∷ history) = synced_by (enclosing (stack history strand)) strand (syncing_strand history)
syncing_strand (_ ∷ history) = syncing_strand history

abbrev pub gathered : History → ℕ → List ℕ
gathered history join = map (last_strand history) (children history join) ++ (syncing_strand history join ∷ [])

-- the join begins by the event
abbrev pub Begins : Event → ℕ → Type 0
Begins (joined strand own) join = join ≡ own
Begins (ended_joined strand own) join = join ≡ own
Begins _ join = ⊥

-- what the join gathers is just what arrives at it, in serial order
abbrev pub Gathers : History → ℕ → Type 0
Gathers history join =
    ((strand : ℕ) → Contains (gathered history join) strand ↔ Arrives history strand join) ×
    AllPairs (IsEnglishBefore history) (gathered history join)
