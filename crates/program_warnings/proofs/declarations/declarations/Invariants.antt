use Rattle.std.proofs.Common.{◌≡◌, ℕ, List, take}
use Rattle.std.specs.Option.{option_or}
use Rattle.program_warnings.specs.Declarations.{memory_declared, reducer_declared, stored_at}
use Rattle.program_warnings.proofs.declarations.declarations.Given as goal

-- the memories so far are stored
abbrev pub invariant-loop-mem : goal.invariant-loop-mem
invariant-loop-mem l = (name : List ℕ) → stored_at l.names name ≡ memory_declared (take l.mem-index l.mems) name

-- and the reducers so far
abbrev pub invariant-loop-reducer : goal.invariant-loop-reducer
invariant-loop-reducer l =
    (name : List ℕ) → stored_at l.names name ≡ option_or (memory_declared l.mems name) (reducer_declared (take l.reducer-index l.reducers) name)
