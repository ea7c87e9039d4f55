use Rattle.std.proofs.Common.{◌≡◌, ℕ, ◌<◌, length}
use Rattle.program_warnings.specs.Reach.{is_marked, puts_from}
use Rattle.program_warnings.proofs.puts.reducers_put.Given as goal

-- the reducers so far have their marks
abbrev pub invariant-loop-reducer : goal.invariant-loop-reducer
invariant-loop-reducer l =
    (length l.put.items ≡ l.reducer)
    × ((reducer : ℕ) → reducer < l.reducer → is_marked l.put.items reducer ≡ puts_from (is_marked l.marks) reducer 0 l.functions)
