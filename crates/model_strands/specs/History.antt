-- Control histories: what the strands of a spawn-sync program did at their spawns, syncs, calls and returns.
use Rattle.std.specs.Prelude.{ℕ, Bool, List}

-- An event names first the strand that makes it.
pub data Event : Type 0 where
  -- a spawn: the strand ends, and its child and its next begin. The block's join is reserved by the block's first split
  split : (strand child next join : ℕ) → (first : Bool) → Event
  -- a sync with no open block: the strand goes on
  same : (strand : ℕ) → Event
  -- a sync of a block with no child outstanding: the strand ends and the join begins
  joined : (strand join : ℕ) → Event
  -- a sync of a block with a child outstanding: the strand ends
  waits : (strand : ℕ) → Event
  -- a call: the strand goes on in the called function
  call : (strand : ℕ) → Event
  -- the return of a called function: the strand goes on in the caller
  resumed : (strand : ℕ) → Event
  -- the return of a spawned function: the strand ends
  ended : (strand : ℕ) → Event
  -- the return of the last child that a sync waits for: the strand ends and the join begins
  ended_joined : (strand join : ℕ) → Event
  -- the return of the root function
  finished : (strand : ℕ) → Event

-- The events so far, the newest first. An event's number is its place from 1 on, the oldest first.
abbrev pub History : Type 0
History = List Event
