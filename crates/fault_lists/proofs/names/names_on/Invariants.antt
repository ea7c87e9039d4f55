use Rattle.std.proofs.Common.{◌≡◌, ◌++◌, ℕ, List, length, map}
use denote.Ref.{Bor}
use Rattle.fault_lists.specs.LineNames.{name_pieces, names_among, names_on}
use Rattle.fault_lists.proofs.names.names_on.Given as goal

-- the names so far and those of the rest are all names
abbrev pub invariant-loop-rest : goal.invariant-loop-rest
invariant-loop-rest l = map (λ (name : Bor (List ℕ)). name.now) l.names.items ++ names_among (name_pieces l.rest) ≡ names_on l.line

abbrev pub decreases-loop-rest : goal.decreases-loop-rest
decreases-loop-rest l = length l.rest
