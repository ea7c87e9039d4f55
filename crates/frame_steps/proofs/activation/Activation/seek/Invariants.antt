use Rattle.std.proofs.Common.{◌≡◌, length}
use Rattle.frame_steps.specs.Scripts.{PassesAll}
use Rattle.frame_steps.specs.Activations.{left_in, StandsIn, steps_ahead}
use Rattle.frame_steps.proofs.activation.Activation.seek.Given as goal

-- the function stands at a later place of the same dialogues
abbrev pub invariant-loop-statement : goal.invariant-loop-statement
invariant-loop-statement g l = record {
  function : l.self.function ≡ l.fn.self.function;
  join : l.self.join ≡ l.fn.self.join;
  stands : StandsIn (length l.program.functions) l.function.body l.self;
  passes : PassesAll (left_in l.function l.fn.self) l.fn.self.registers (left_in l.function l.self) l.self.registers;
}

abbrev pub decreases-loop-statement : goal.decreases-loop-statement
decreases-loop-statement g l = steps_ahead (length l.function.body) l.self.place l.self.turn
