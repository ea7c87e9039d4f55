-- The slots in which the frames stand that have not ended.
use Rattle.std.specs.Prelude.{◌≡◌, ◌≢◌, ℕ, List, length, slice_get, Some}
use Rattle.model_histories.specs.Shapes.{Shape}
use Rattle.model_histories.specs.States.{GateState}
use Rattle.model_bodies.specs.Codes.{Code}
use Rattle.frame_steps.specs.States.{FrameState}
use Rattle.frame_steps.specs.declared.phase.Phase.TheVariants.{Over}
use Rattle.run_replay.specs.declared.frame_table.Slot.{Slot}
use Rattle.run_replay.specs.FrameTables.{placed_frames, Opens, Plays}

-- The frame of this number stands in this slot, or the slot has another's number, and the frame has ended.
pub record IsHome {A : Type 0} (slots : List (Slot A)) (home number : ℕ) (frame : FrameState) : Type 0 where
  pub held : Slot A
  pub there : slice_get slots home ≡ Some held
  pub own : held.number ≡ number → held.frame ≡ frame
  pub lost : held.number ≢ number → frame.phase ≡ Over

-- Each frame has its home.
pub record AreHeld {A : Type 0} (slots : List (Slot A)) (homes : List ℕ) (frames : List FrameState) : Type 0 where
  pub counted : length homes ≡ length frames
  pub each : (number home : ℕ) (frame : FrameState) →
      slice_get homes number ≡ Some home → slice_get frames number ≡ Some frame → IsHome slots home number frame

-- Frames with these homes open.
abbrev pub OpensIn : {A : Type 0} → List Code → Shape → GateState → List (Slot A) → (homes places : List ℕ) → Type 0
OpensIn functions shape gate slots homes places =
    (frames : List FrameState) × AreHeld slots homes frames × Opens functions shape gate (placed_frames frames places)

-- Frames with these homes play.
abbrev pub PlaysIn : {A : Type 0} → List Code → Shape → GateState → List (Slot A) → (homes places : List ℕ) → Type 0
PlaysIn functions shape gate slots homes places =
    (frames : List FrameState) × AreHeld slots homes frames × Plays functions shape gate (placed_frames frames places)
