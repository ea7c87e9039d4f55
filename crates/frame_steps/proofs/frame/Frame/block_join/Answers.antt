use Rattle.std.proofs.Common.{◌≡◌, ◌∙◌, ap, sym, List, [], ◌∷◌, None}
use Rattle.model_programs.specs.Exchanges.{Exchange}
use Rattle.frame_steps.specs.declared.phase.Phase.TheVariants.{Wanting}
use Rattle.frame_steps.specs.Joins.{joins_after, topmost, open_join}
use Rattle.frame_steps.specs.States.{FrameState}
use Rattle.frame_steps.specs.Frames.{joins_of}
use Rattle.frame_steps.proofs.frame.Frame.block_join.Goals as goal

-- while the frame wants, its topmost function's join is the open one
wanted_join : (frame : FrameState) (history : List Exchange) → frame.phase ≡ Wanting → joins_of frame ≡ joins_after (None ∷ []) history → frame.top.join ≡ open_join history
wanted_join frame history wants joins = rw wants at (ap topmost joins)

pub returns-in-Wanting : goal.returns-in-Wanting
returns-in-Wanting g c = λ functions function argument history after.
    ap (λ (s : FrameState). s.top.join) c.self.view_is ∙
    wanted_join c.args.self.now history (ap (λ (s : FrameState). s.phase) (sym c.self.view_is) ∙ c.in-Wanting.is) after.joins
