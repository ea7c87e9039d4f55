-- So far the scopes have their new numbers.
use Rattle.std.proofs.Common.{◌≡◌, ◌+◌, ◌++◌, List, Bool, length, map, take, drop, All}
use Rattle.serial_judge.specs.declared.scope.Scope.{Scope}
use Rattle.serial_judge.specs.Moves.{moved_scope, AreMoves, IsSpawnWithin}
use Rattle.serial_judge.proofs.scope.renumber_scopes.Given as goal

abbrev pub invariant-loop-scope : goal.invariant-loop-scope
invariant-loop-scope g l =
    (marks : List Bool) → AreMoves marks l.moves → All (λ (scope : Scope). IsSpawnWithin (length marks + 1) scope.spawn) l.fn.scopes →
    l.scopes ≡ map (moved_scope marks) (take l.scope-index l.fn.scopes) ++ drop l.scope-index l.fn.scopes
