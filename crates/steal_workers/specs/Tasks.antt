-- Where a task goes on.
use Rattle.std.specs.Prelude.{◌≡◌, ℕ, []}
use Rattle.frame_steps.specs.Frames.{IsAfter}
use Rattle.steal_workers.specs.declared.task.Task.{Task}

-- the frame of a task, on this strand
abbrev pub IsOn : {A : Type 0} → ℕ → Task A → Task A → Type 0
IsOn strand task next = (next.strand ≡ strand) × (next.program ≡ task.program) × (next.frame ≡ task.frame)

-- nothing was said yet by the function with this argument
abbrev pub IsBegun : {A : Type 0} → (function argument : ℕ) → Task A → Type 0
IsBegun function argument task = IsAfter task.program.now.functions function argument [] task.frame.value
