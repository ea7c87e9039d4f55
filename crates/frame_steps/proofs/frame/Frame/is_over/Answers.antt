use Rattle.std.proofs.Common.{◌∙◌, ap, sym}
use Rattle.frame_steps.specs.States.{FrameState}
use Rattle.frame_steps.proofs.Histories.{after_part, over_whole}
use Rattle.frame_steps.proofs.frame.Frame.is_over.Goals as goal

pub returns-in-Over-clause-part : goal.returns-in-Over-clause-part
returns-in-Over-clause-part g c = λ functions. after_part functions c.args.self.now

pub returns-in-Over-clause-whole : goal.returns-in-Over-clause-whole
returns-in-Over-clause-whole g c = λ t functions. over_whole functions c.args.self.now (ap (λ (s : FrameState). s.phase) (sym c.self.view_is) ∙ c.in-Over.is)

pub returns-in_default : goal.returns-in_default
returns-in_default g c = record {
  over = ((λ t. cc), (λ p. absurd (c.in_default.not-Over (ap (λ (s : FrameState). s.phase) c.self.view_is ∙ p))));
  part = λ functions. after_part functions c.args.self.now;
  whole = λ t. cc;
}
