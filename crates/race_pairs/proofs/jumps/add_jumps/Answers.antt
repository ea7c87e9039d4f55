use Rattle.std.proofs.Common.{List, sym, subst}
use Rattle.std.proofs.lemmas.Result.{IfOk-weaker}
use Rattle.race_pairs.specs.declared.kept.Jump.{Jump}
use Rattle.race_pairs.specs.Jumps.{CanRaise, IsJumpOf}
use Rattle.race_pairs.proofs.Raised.{spawn_raised}
use Rattle.race_pairs.proofs.jumps.add_jumps.Goals as goal

pub jump_of-made-requires : goal.jump_of-made-requires
jump_of-made-requires c =
    (c.requires.0, subst (λ (J : List Jump). CanRaise J c.requires.0 c.args.spawner) (sym c.as_slice.ensures.value) c.requires.1)

pub returns : goal.returns
returns c =
    IfOk-weaker c.push_jumps.result _ _ (λ u longer entries entry can next.
    spawn_raised c.args.jumps.now.items _ c.args.spawner c.args.spawned.child c.args.spawned.next c.args.spawned.join c.args.spawned.first c.jump_of-made.result longer
    (λ es could. subst (λ (J : List Jump). IsJumpOf J es c.args.spawner c.jump_of-made.result) c.as_slice.ensures.value
    (c.jump_of-made.ensures es (subst (λ (J : List Jump). CanRaise J es c.args.spawner) (sym c.as_slice.ensures.value) could)))
    entries entry can next) c.push_jumps.ensures
