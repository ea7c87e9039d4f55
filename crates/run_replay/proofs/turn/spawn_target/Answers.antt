use Rattle.std.proofs.Common.{◌≡◌, true, ◌∙◌, sym}
use Rattle.run_replay.proofs.Turns.{none_spawned}
use Rattle.run_replay.proofs.turn.spawn_target.Goals as goal

pub returns-else-is_spawn-clause-target : goal.returns-else-is_spawn-clause-target
returns-else-is_spawn-clause-target g c = λ x w same.
    none_spawned c.args.program.now.functions c.args.frame.now x w
    (λ spawn. let is : c.is_spawn.result ≡ true = c.is_spawn.ensures.1 (sym same ∙ spawn) in let not = c.if-is_spawn.false in cc)
