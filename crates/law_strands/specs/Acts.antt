-- What a strand asks for, and which events answer it.
use Rattle.std.specs.Prelude.{◌≡◌, ℕ}
use Rattle.model_strands.specs.History.{Event, split, same, joined, waits, call, resumed, ended, ended_joined, finished, History}
use Rattle.model_strands.specs.Legal.{Allowed}

pub data Act : Type 0 where
  spawns syncs calls returns : Act

abbrev pub control_act_of : Event → Act
control_act_of (split strand child next join first) = spawns
control_act_of (same strand) = syncs
control_act_of (joined strand join) = syncs
control_act_of (waits strand) = syncs
control_act_of (call strand) = calls
control_act_of (resumed strand) = returns
control_act_of (ended strand) = returns
control_act_of (ended_joined strand join) = returns
control_act_of (finished strand) = returns

-- the strand that makes the event
abbrev pub strand_of : Event → ℕ
strand_of (split strand child next join first) = strand
strand_of (same strand) = strand
strand_of (joined strand join) = strand
strand_of (waits strand) = strand
strand_of (call strand) = strand
strand_of (resumed strand) = strand
strand_of (ended strand) = strand
strand_of (ended_joined strand join) = strand
strand_of (finished strand) = strand

-- the event answers this act of the strand
abbrev pub Answers : History → ℕ → Act → Event → Type 0
Answers history strand act event = (strand_of event ≡ strand) × (control_act_of event ≡ act) × Allowed history event
