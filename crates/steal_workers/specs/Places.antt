-- What comes out of the lot for a join, and what lies there then.
use Rattle.std.specs.Prelude.{◌≡◌, ◌≢◌, ◌⊎◌, ◌==◌, ℕ, List, get_or, Option, Some, None, Result, Ok, Err, IsSomeAnd, IsOkAnd, if◌then◌else◌}
use Rattle.slab.specs.Slab.{Slab, get}
use Rattle.steal_workers.specs.declared.task.Task.{Task}
use Rattle.steal_workers.specs.declared.lot.Mark.{Mark}
use Rattle.steal_workers.specs.declared.lot.Mark.TheVariants as mark
use Rattle.steal_workers.specs.declared.lot.Waiting.{Waiting}
use Rattle.steal_workers.specs.declared.lot.LotFault.{LotFault}
use Rattle.steal_workers.specs.declared.lot.LotFault.TheVariants.{Torn, Memory}
use Rattle.steal_workers.specs.Tasks.{IsOn}

-- what lies for a join: a task that waits, the last child's end, for which the task is still to come, or both came
pub data Place (A : Type 0) : Type 0 where
  Parked : Task A → Place A
  Woken : Place A
  Met : Place A

-- the task of a join, if that is what a slot holds
abbrev pub task_in : {A : Type 0} → Option (Waiting A) → ℕ → Option (Task A)
task_in None join = None
task_in (Some waiting) join = if waiting.join == join then Some waiting.task else None

abbrev pub parked : {A : Type 0} → Option (Task A) → Option (Place A)
parked None = None
parked (Some task) = Some (Parked task)

abbrev pub place_by : {A : Type 0} → Mark → Slab (Waiting A) → ℕ → Option (Place A)
place_by mark.Unmet waiting join = None
place_by (mark.Parked slot) waiting join = parked (task_in (get waiting slot) join)
place_by mark.Woken waiting join = Some Woken
place_by mark.Met waiting join = Some Met

-- what lies for a join, by the marks and the tasks that wait
abbrev pub place_at : {A : Type 0} → List Mark → Slab (Waiting A) → ℕ → Option (Place A)
place_at marks waiting join = place_by (get_or marks join mark.Unmet) waiting join

-- the tasks of other joins wait where they did
abbrev pub OthersStay : {A : Type 0} → Slab (Waiting A) → Slab (Waiting A) → ℕ → Type 0
OthersStay old new join = (slot other : ℕ) → other ≢ join → task_in (get new slot) other ≡ task_in (get old slot) other

-- a task comes: by what lay there, what comes out and what lies there then
abbrev pub Parks : {A : Type 0} → ℕ → Task A → Option (Place A) → Result (Option (Task A)) LotFault → Option (Place A) → Type 0
Parks join task None result after = ((result ≡ Ok None) × (after ≡ Some (Parked task))) ⊎ ((result ≡ Err Memory) × (after ≡ None))
Parks join task (Some Woken) result after = IsOkAnd result (λ out. IsSomeAnd out (IsOn join task)) × (after ≡ Some Met)
Parks join task (Some (Parked first)) result after = (result ≡ Err Torn) × (after ≡ Some (Parked first))
Parks join task (Some Met) result after = (result ≡ Err Torn) × (after ≡ Some Met)

-- the last child's end comes
abbrev pub Wakes : {A : Type 0} → ℕ → Option (Place A) → Result (Option (Task A)) LotFault → Option (Place A) → Type 0
Wakes join None result after = ((result ≡ Ok None) × (after ≡ Some Woken)) ⊎ ((result ≡ Err Memory) × (after ≡ None))
Wakes join (Some (Parked task)) result after = IsOkAnd result (λ out. IsSomeAnd out (IsOn join task)) × (after ≡ Some Met)
Wakes join (Some Woken) result after = (result ≡ Err Torn) × (after ≡ Some Woken)
Wakes join (Some Met) result after = (result ≡ Err Torn) × (after ≡ Some Met)
