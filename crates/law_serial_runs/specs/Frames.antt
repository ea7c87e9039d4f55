-- The functions that a serial run is in.
use Rattle.std.specs.Prelude.{◌≡◌, ◌<◌, ℕ, true, false, List, [], ◌∷◌, Option, Some, None}
use Rattle.model_strands.specs.History.{split, joined, call, resumed, ended, History}
use Rattle.model_strands.specs.Strands.{unused}
use Rattle.model_strands.specs.Blocks.{Stack, root, spawned, called, block, stack}
use Rattle.model_strands.specs.Addresses.{address}
use Rattle.law_addresses.specs.Address.{parallel}
use Rattle.model_serial_runs.specs.Current.{next_of, current}

-- how the run came into a function
pub data Entry : Type 0 where
  -- it is the root function
  at_root : Entry
  -- by a call
  by_call : Entry
  -- by a spawn, which began this next
  by_spawn : (next : ℕ) → Entry

-- a function, and the join of its open block
pub record Frame : Type 0 where
  pub entry : Entry
  pub block : Option ℕ

-- the innermost function has this open block
abbrev pub with_block : Option ℕ → List Frame → List Frame
with_block join [] = []
with_block join (frame ∷ frames) = record { entry = frame.entry; block = join } ∷ frames

abbrev pub without_first : List Frame → List Frame
without_first [] = []
without_first (frame ∷ frames) = frames

-- the functions, the innermost first
abbrev pub frames : History → List Frame
frames [] = record { entry = at_root; block = None } ∷ []
frames (split strand child next join first ∷ history) = record { entry = by_spawn next; block = None } ∷ with_block (Some join) (frames history)
frames (joined strand join ∷ history) = with_block None (frames history)
frames (call strand ∷ history) = record { entry = by_call; block = None } ∷ frames history
frames (resumed strand ∷ history) = without_first (frames history)
frames (ended strand ∷ history) = without_first (frames history)
frames (_ ∷ history) = frames history

-- a strand in a function that the run came into so, and that has this open block, stands there
abbrev pub IsInFrame : History → Entry → Option ℕ → Stack → Type 0
IsInFrame history entry (Some join) stack = (below : Stack) × (stack ≡ block join below)
IsInFrame history at_root None stack = stack ≡ root
IsInFrame history by_call None stack = (number : ℕ) × (below : Stack) × (stack ≡ called number below)
IsInFrame history (by_spawn next) None stack =
    (number join : ℕ) × (stack ≡ spawned number join) × (next_of history number ≡ next)

-- the strand leads to the join of a block, and is parallel to the next beside a function
abbrev pub LeadsTo : History → ℕ → Option ℕ → Type 0
LeadsTo history strand None = Unit {0}
LeadsTo history strand (Some join) = (join < unused history) × (parallel (address history strand) (address history join) ≡ false)

abbrev pub IsBeside : History → ℕ → Entry → Type 0
IsBeside history strand (by_spawn next) = (next < unused history) × (parallel (address history strand) (address history next) ≡ true)
IsBeside history strand entry = Unit {0}

-- so it stands to each of the functions
abbrev pub IsWithin : History → ℕ → List Frame → Type 0
IsWithin history strand [] = Unit {0}
IsWithin history strand (frame ∷ frames) =
    LeadsTo history strand frame.block × IsBeside history strand frame.entry × IsWithin history strand frames

-- the strand at which the run is stands in the innermost of the functions, and so to all of them
pub record AreFrames (history : History) (frame : Frame) (others : List Frame) : Type 0 where
  pub are : frames history ≡ frame ∷ others
  pub innermost : IsInFrame history frame.entry frame.block (stack history (current history))
  pub within : IsWithin history (current history) (frame ∷ others)
