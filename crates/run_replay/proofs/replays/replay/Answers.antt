use Rattle.std.proofs.Common.{sym, subst, ◌∙◌}
use Rattle.model_histories.specs.Shapes.{most_entries}
use Rattle.model_histories.specs.States.{opening}
use Rattle.program_text.specs.Shapes.{shape_in}
use Rattle.race_gate.specs.Cores.{CoreState, IsCoreOf}
use Rattle.run_replay.proofs.replays.replay.Goals as goal
use Rattle.run_replay.proofs.replays.replay.Goals.{then-spawns-ge-MANY_SPAWNS, else-spawns-ge-MANY_SPAWNS}

pub play_all-requires-clause-core : goal.play_all-requires-clause-core
play_all-requires-clause-core g c =
    let first = opening (shape_in c.args.program.now) most_entries in
    elim c.if-spawns-ge-MANY_SPAWNS.branch [
      | then-spawns-ge-MANY_SPAWNS w ↦ subst (λ (core : CoreState). IsCoreOf core first) (sym (w.core-is ∙ w.make_room-then-spawns-ge-MANY_SPAWNS.ensures)) c.in_ok-core.ensures
      | else-spawns-ge-MANY_SPAWNS w ↦ subst (λ (core : CoreState). IsCoreOf core first) (sym w.core-is) c.in_ok-core.ensures
    ]

pub play_all-requires-clause-opens : goal.play_all-requires-clause-opens
play_all-requires-clause-opens g c = rw (c.make_room.ensures.slots, c.make_room.ensures.homes, c.make_room.ensures.places) c.in_ok-table.ensures
