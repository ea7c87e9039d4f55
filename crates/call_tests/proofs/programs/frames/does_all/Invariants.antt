use Rattle.frame_steps.specs.Frames.{Stands}
use Rattle.call_tests.proofs.programs.frames.does_all.Given as goal

abbrev pub invariant-loop-step : goal.invariant-loop-step
invariant-loop-step l = Stands l.program.functions l.frame
