-- What contracts see of a frame.
use Rattle.std.specs.Prelude.{Bool, List}
use Rattle.frame_steps.specs.declared.activation.Activation.{Activation}
use Rattle.frame_steps.specs.declared.phase.Phase.{Phase}

-- Whether it has asked, its topmost function, the functions that wait for it, the outermost first, and whether there is room for a call.
pub record FrameState : Type 0 where
  pub phase : Phase
  pub top : Activation
  pub callers : List Activation
  pub has_room : Bool
