use Rattle.std.proofs.Common.{◌≡◌, reverse, take}
use Rattle.model_histories.specs.States.{GateState}
use Rattle.program_text.specs.Shapes.{shape_in}
use Rattle.run_replay.specs.Slots.{PlaysIn}
use Rattle.run_replay.specs.Wraps.{AreWraps}
use Rattle.run_replay.proofs.wraps.keep_all.Given as goal

abbrev pub invariant-loop-at : goal.invariant-loop-at
invariant-loop-at g l =
    (state : GateState)
    × (PlaysIn l.program.functions (shape_in l.program) state l.table.slots.items l.table.homes.items l.table.places.items
    × AreWraps l.program.functions (shape_in l.program) state.history l.wraps)
    × (state.history ≡ reverse (take l.at l.entries.items))
