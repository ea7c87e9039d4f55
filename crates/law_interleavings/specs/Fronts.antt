-- How far a spawned function is, by its acts alone: the address of the strand that goes on for it, and the functions and open blocks round
-- that strand. No number of a strand stands in it, so it is the same in every interleaving.
use Rattle.std.specs.Prelude.{◌≡◌, ◌⊎◌, ℕ, suc, [], ◌∷◌, length}
use Rattle.model_strands.specs.Address.{Address, child, next, join, extended}
use Rattle.model_accesses.specs.declared.request.Act.{Act}
use Rattle.model_strands.specs.Updated.{updated}
use Rattle.model_strands.specs.History.{Event, split, same, joined, waits, call, History}
use Rattle.model_strands.specs.Strands.{reserved, status, Running}
use Rattle.model_strands.specs.Blocks.{Stack, root, spawned, called, block, stack, IsWaitedFor}
use Rattle.model_strands.specs.Addresses.{address}
use Rattle.law_strands.specs.Acts.{strand_of}
use Rattle.model_runs.specs.Frames.{frame_of}

-- the functions that a strand is in, innermost first, each with the address of its open block's join
pub data Nest : Type 0 where
  -- in the spawned function itself
  in_spawned : Nest
  -- in a function that it called
  inside : Nest → Nest
  -- in an open block
  opened : (end : Address) → Nest → Nest
  -- it has returned
  gone : Nest

pub record Front : Type 0 where
  pub here : Address
  pub nest : Nest

-- a spawned function begins at this address
abbrev pub first_front : Address → Front
first_front here = record { here = here; nest = in_spawned }

abbrev pub after_spawn : Address → Nest → Front
after_spawn here (opened end nest) = record { here = extended here next; nest = opened end nest }
after_spawn here nest = record { here = extended here next; nest = opened (extended here join) nest }

abbrev pub after_sync : Address → Nest → Front
after_sync here (opened end nest) = record { here = end; nest = nest }
after_sync here nest = record { here = here; nest = nest }

abbrev pub after_return : Address → Nest → Front
after_return here (inside nest) = record { here = here; nest = nest }
after_return here nest = record { here = here; nest = gone }

-- the front after one more act
abbrev pub moved : Front → Act → Front
moved front Act.Spawn = after_spawn front.here front.nest
moved front Act.Sync = after_sync front.here front.nest
moved front Act.Call = record { here = front.here; nest = inside front.nest }
moved front Act.Return = after_return front.here front.nest
moved front act = front

-- the act that an event answers
abbrev pub act_in : Event → Act
act_in (split strand the_child the_next the_join first) = Act.Spawn
act_in (same strand) = Act.Sync
act_in (joined strand the_join) = Act.Sync
act_in (waits strand) = Act.Sync
act_in (call strand) = Act.Call
act_in _ = Act.Return

-- the frame of a strand in a control history
abbrev pub frame_at : History → ℕ → ℕ
frame_at history strand = frame_of (stack history strand)

-- the fronts with that of the event's frame moved
abbrev pub moved_by : History → Event → (ℕ → Front) → ℕ → Front
moved_by history event fronts =
    updated fronts (frame_at history (strand_of event)) (moved (fronts (frame_at history (strand_of event))) (act_in event))

-- how far each frame is
abbrev pub front : History → ℕ → Front
front [] = λ frame. first_front []
front (split strand the_child the_next the_join first ∷ history) =
    updated (moved_by history (split strand the_child the_next the_join first) (front history)) (suc (length history))
    (first_front (extended (address history strand) child))
front (event ∷ history) = moved_by history event (front history)

abbrev pub nest_of : History → Stack → Nest
nest_of history root = in_spawned
nest_of history (spawned number the_join) = in_spawned
nest_of history (called number below) = inside (nest_of history below)
nest_of history (block the_join below) = opened (address history the_join) (nest_of history below)

-- where a strand stands
abbrev pub stands_at : History → ℕ → Front
stands_at history strand = record { here = address history strand; nest = nest_of history (stack history strand) }

-- it goes on for its frame: it runs, or is a join for which a sync waits
abbrev pub IsActive : History → ℕ → Type 0
IsActive history strand = Running history strand ⊎ ((status history strand ≡ reserved) × IsWaitedFor history strand)

-- a split began this frame
abbrev pub IsBegun : History → ℕ → Type 0
IsBegun [] frame = frame ≡ 0
IsBegun (split strand the_child the_next the_join first ∷ history) frame = (frame ≡ suc (length history)) ⊎ IsBegun history frame
IsBegun (_ ∷ history) frame = IsBegun history frame

-- the front of each frame is where the one strand stands that goes on for it, until it has returned
pub record AreFronts (history : History) : Type 0 where
  pub at : (strand : ℕ) → IsActive history strand → front history (frame_at history strand) ≡ stands_at history strand
  pub alone : (strand other : ℕ) → IsActive history strand → IsActive history other → frame_at history strand ≡ frame_at history other →
      strand ≡ other
  pub found : (frame : ℕ) → IsBegun history frame →
      ((front history frame).nest ≡ gone) ⊎ ((strand : ℕ) × IsActive history strand × (frame_at history strand ≡ frame))
