use Rattle.std.proofs.Common.{◌≡◌, reverse, take}
use Rattle.model_histories.specs.States.{GateState}
use Rattle.race_gate.specs.Cores.{IsCoreOf}
use Rattle.program_text.specs.Shapes.{shape_in}
use Rattle.run_replay.specs.Slots.{PlaysIn}
use Rattle.run_replay.proofs.replays.play_all.Given as goal

abbrev pub invariant-loop-entry : goal.invariant-loop-entry
invariant-loop-entry g l = record {
  plays : (state : GateState) × IsCoreOf l.core state × PlaysIn l.program.functions (shape_in l.program) state l.table.slots.items l.table.homes.items l.table.places.items ×
      (state.history ≡ reverse (take l.entry-index l.entries));
}
