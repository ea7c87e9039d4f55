-- Serial runs: each child is done before its spawner goes on.
use Rattle.std.specs.Prelude.{◌≡◌, ℕ, suc, [], ◌∷◌, length, cond, eqb}
use Rattle.model_strands.specs.History.{Event, split, same, joined, waits, call, resumed, ended, ended_joined, finished, History}
use Rattle.model_strands.specs.Blocks.{Stack, spawned, stack}

-- the strand that makes the event
abbrev pub strand_of : Event → ℕ
strand_of (split strand child next join first) = strand
strand_of (same strand) = strand
strand_of (joined strand join) = strand
strand_of (waits strand) = strand
strand_of (call strand) = strand
strand_of (resumed strand) = strand
strand_of (ended strand) = strand
strand_of (ended_joined strand join) = strand
strand_of (finished strand) = strand

-- the next that began at the split with this number, or 0 where that is no split
abbrev pub next_of : History → ℕ → ℕ
next_of [] number = 0
next_of (split strand child next join first ∷ history) number = cond (eqb number (suc (length history))) next (next_of history number)
next_of (_ ∷ history) number = next_of history number

-- where the run goes on when a spawned function returns in which a strand stood like that: beside the function's spawn
abbrev pub beside : History → Stack → ℕ
beside history (spawned number join) = next_of history number
beside history stack = 0

-- The strand at which a serial run is. It goes from a spawn to the child, from a child's return to the next of its spawn, and from the end
-- of a block to the join.
abbrev pub current : History → ℕ
current [] = 0
current (split strand child next join first ∷ history) = child
current (joined strand join ∷ history) = join
current (ended strand ∷ history) = beside history (stack history strand)
current (_ ∷ history) = current history

-- each event is made by the strand at which the run is
abbrev pub IsSerial : History → Type 0
IsSerial [] = Unit {0}
IsSerial (event ∷ history) = (strand_of event ≡ current history) × IsSerial history
