-- What a deque holds, beside what its passes have pushed and taken.
use Rattle.std.specs.Prelude.{◌≡◌, ℕ, ◌+◌, List, [], ◌∷◌, ◌++◌, map}
use Rattle.std.specs.List.{sum_by, count_by}
use Rattle.std.proofs.Common.{◌==◌}
use Rattle.steal_workers.specs.declared.task.Task.{Task}
use Rattle.steal_workers.specs.declared.pass_log.PassLog.{PassLog}

abbrev pub pass_log : List ℕ → List ℕ → PassLog
pass_log pushed taken = record { pushed = pushed; taken = taken }

-- a pass that has pushed one more
abbrev pub pushing : ℕ → PassLog → PassLog
pushing strand v = pass_log (v.pushed ++ strand ∷ []) v.taken

-- a pass that has taken one more
abbrev pub taking : ℕ → PassLog → PassLog
taking strand v = pass_log v.pushed (v.taken ++ strand ∷ [])

-- what two passes did
abbrev pub joined : PassLog → PassLog → PassLog
joined v w = pass_log (v.pushed ++ w.pushed) (v.taken ++ w.taken)

abbrev pub strands_of : {A : Type 0} → List (Task A) → List ℕ
strands_of = map (λ t. t.strand)

-- how often x stands in the list
abbrev pub times : ℕ → List ℕ → ℕ
times x = count_by (λ y. y == x)

-- each strand was pushed as often as it was taken and stands in the deque
abbrev pub Balanced : {A : Type 0} → List (Task A) → List PassLog → Type 0
Balanced tasks views = (x : ℕ) → sum_by (λ v. times x v.pushed) views ≡ sum_by (λ v. times x v.taken) views + times x (strands_of tasks)
