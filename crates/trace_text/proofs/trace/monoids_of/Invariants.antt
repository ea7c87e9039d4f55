use Rattle.std.proofs.Common.{◌≡◌, map, take}
use Rattle.trace_text.proofs.trace.monoids_of.Given as goal

abbrev pub invariant-loop-reducer : goal.invariant-loop-reducer
invariant-loop-reducer g l = l.monoids.items ≡ map (λ reducer. reducer.monoid) (take l.reducer-index l.reducers)
