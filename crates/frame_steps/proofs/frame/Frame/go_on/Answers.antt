use Rattle.std.proofs.Common.{◌∙◌, ap}
use Rattle.frame_steps.specs.States.{FrameState}
use Rattle.frame_steps.proofs.frame.Frame.go_on.Goals as goal

pub returns-clause-registers : goal.returns-clause-registers
returns-clause-registers g c = c.step.ensures.same.1 ∙ ap (λ (s : FrameState). s.top.registers) c.self.view_is
