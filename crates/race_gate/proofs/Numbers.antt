-- A history with so few entries never runs out of numbers for strands.
use Rattle.std.proofs.Common.{ℕ, ◌+◌, ◌*◌, ◌<◌, ◌≤◌, Option, Some, None, [], ◌∷◌, length, true, false, arith}
use Rattle.model_strands.specs.History.{Event, split, same, joined, waits, call, resumed, ended, ended_joined, finished, History}
use Rattle.model_strands.specs.Strands.{unused}
use Rattle.sp_labels.specs.Roster.{HasFewLeft}
use Rattle.model_histories.specs.Entries.{Entries, event_of, with_event, control_part}
use Rattle.model_histories.specs.Shapes.{most_entries}

unused-event : (event : Event) (history : History) → unused (event ∷ history) ≤ unused history + 3
unused-event (split strand child next join true) history = omega arith
unused-event (split strand child next join false) history = omega arith
unused-event (same strand) history = omega arith
unused-event (joined strand join) history = omega arith
unused-event (waits strand) history = omega arith
unused-event (call strand) history = omega arith
unused-event (resumed strand) history = omega arith
unused-event (ended strand) history = omega arith
unused-event (ended_joined strand join) history = omega arith
unused-event (finished strand) history = omega arith

unused-with : (event : Option Event) (history : History) → unused (with_event event history) ≤ unused history + 3
unused-with (Some event) history = unused-event event history
unused-with None history = omega arith

-- an entry takes three numbers at most
unused-entries : (entries : Entries) → unused (control_part entries) ≤ 1 + 3 * length entries
unused-entries [] = omega arith
unused-entries (entry ∷ entries) = omega (arith, unused-with (event_of entry) (control_part entries), unused-entries entries)

pub not_few : (entries : Entries) (limit : ℕ) → length entries < limit → limit ≤ most_entries → HasFewLeft (control_part entries) → ⊥
not_few entries limit below small few = omega (arith, unused-entries entries)
