use Rattle.std.proofs.Common.{◌≡◌, ℕ, ◌<◌, Some, true, false}
use Rattle.std.specs.Prelude.{slice_get}
use Rattle.program_warnings.specs.Reach.{Begins}
use Rattle.program_warnings.proofs.reach.next_of.Given as goal

-- no function so far that has a mark spawns or calls one without
abbrev pub invariant-loop-number : goal.invariant-loop-number
invariant-loop-number l =
    (caller callee : ℕ) → caller < l.number → slice_get l.marks caller ≡ Some true → Begins l.functions caller callee →
    slice_get l.marks callee ≡ Some false → ⊥
