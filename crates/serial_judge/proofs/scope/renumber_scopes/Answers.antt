-- One more scope has its new number.
use Rattle.std.proofs.Common.{◌<◌, ◌+◌, length, get_or, None, sym, subst, arith}
use Rattle.std.proofs.lemmas.List.{get_or_default}
use Rattle.serial_judge.specs.declared.scope.Scope.{Scope}
use Rattle.serial_judge.specs.Moves.{moved_scope, IsSpawnWithin}
use Rattle.serial_judge.proofs.Moving.{map_step}
use Rattle.serial_judge.proofs.scope.renumber_scopes.Goals as goal

pub loop-scope-preserved : goal.loop-scope-preserved
loop-scope-preserved g c marks moves within =
    let none : Scope = record { spawn = None; spans = 0; branch = 0; block = None } in
    let i = c.loop-scope.scope-index in
    let lt : i < length c.args.scopes.now = omega (arith, c.loop-scope-test.true, c.loop-scope.auto.scopes) in
    let here : i < length c.loop-scope.scopes = omega (arith, c.loop-scope-test.true, c.loop-scope.auto.scopes) in
    let x : Scope = get_or c.loop-scope.scopes i none in
    map_step (moved_scope marks) c.args.scopes.now c.loop-scope.scopes i x c.renumbered.result lt (c.loop-scope.invariant marks moves within)
    (get_or_default c.loop-scope.scopes i none x here)
    (λ e. c.renumbered.ensures marks moves (subst (λ (z : Scope). IsSpawnWithin (length marks + 1) z.spawn) (sym e) (within i x lt)))
