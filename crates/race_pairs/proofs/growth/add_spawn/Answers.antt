use Rattle.std.proofs.Common.{List, Some, sym, subst}
use Rattle.std.proofs.lemmas.Result.{IfOk-weaker}
use Rattle.race_pairs.specs.declared.kept.Strand.{Strand}
use Rattle.race_pairs.specs.Growths.{CanGrow, IsFrameMore}
use Rattle.race_pairs.proofs.Events.{spawn_kept}
use Rattle.race_pairs.proofs.growth.add_spawn.Goals as goal

pub add_frame-requires : goal.add_frame-requires
add_frame-requires c =
    subst (λ (S : List Strand). CanGrow c.args.opened.now.items c.args.turns.now S c.args.spawner) (sym c.as_slice.ensures.value) c.requires

pub returns : goal.returns
returns c =
    IfOk-weaker c.add_strands.result _ _ (λ u strands_are entries entry kept number next.
    spawn_kept c.args.opened.now.items _ c.args.turns.now c.args.strands.now.items _ c.args.spawner c.args.number c.in_ok-maker.maker c.args.spawned
    (subst (λ (S : List Strand). IsFrameMore c.args.opened.now.items c.args.turns.now S (record { number = c.args.number; strand = c.args.spawner; spawned = Some c.args.spawned }) c.add_frame.new.opened.items) c.as_slice.ensures.value c.in_ok-maker.ensures.added)
    c.in_ok-maker.ensures.place strands_are entries entry kept number next) c.add_strands.ensures
