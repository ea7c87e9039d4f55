-- The frames of a history in order of their spawns, and where strands stand.
use Rattle.std.specs.Prelude.{◌≡◌, ◌⊎◌, ◌≤◌, ℕ, Bool, true, false, List, [], ◌∷◌, ◌++◌, length, slice_get, Some}
use Rattle.model_strands.specs.Strands.{unused}
use Rattle.model_histories.specs.declared.answer.Answer.{Answer}
use Rattle.model_histories.specs.declared.answer.Answer.TheVariants.{Split}
use Rattle.model_histories.specs.declared.answer.Entry.{Entry}
use Rattle.model_histories.specs.Entries.{Entries, control_part}
use Rattle.model_histories.specs.Shapes.{Shape, most_entries}
use Rattle.model_histories.specs.States.{GateState, opening}
use Rattle.model_races.specs.Verdicts.{IsRefused}
use Rattle.model_bodies.specs.Codes.{Code}
use Rattle.model_bodies.specs.Sound.{IsMain}
use Rattle.model_programs.specs.declared.target.Target.{Target}
use Rattle.frame_steps.specs.States.{FrameState}
use Rattle.frame_steps.specs.Frames.{Stands, IsAfter}
use Rattle.model_runs.specs.Frames.{Targets, HasFrame, frame_in, next_frame, said_by}
use Rattle.model_runs.specs.Runs.{IsRun, IsRunWith}

-- the frame that an answer begins
abbrev pub begun_by : Answer → ℕ → List ℕ
begun_by (Split strands) frame = frame ∷ []
begun_by answer frame = []

-- the frames in order of their spawns
abbrev pub frames_in : Entries → List ℕ
frames_in [] = 0 ∷ []
frames_in (entry ∷ entries) = frames_in entries ++ begun_by entry.answer (next_frame entries)

-- where the strands of a split stand: the child in its own frame, the others in the spawner's
abbrev pub new_places : (first : Bool) → (child spawner : ℕ) → List ℕ
new_places true child spawner = child ∷ spawner ∷ spawner ∷ []
new_places false child spawner = child ∷ spawner ∷ []

-- one more frame, of a function that begins
pub record IsBegun (functions : List Code) (target : Target) (before after : List FrameState) : Type 0 where
  pub frame : FrameState
  pub stands : Stands functions frame
  pub begun : IsAfter functions target.function target.argument [] frame
  pub pushed : after ≡ before ++ frame ∷ []

-- frames in order of their spawns, and for each strand the place of its frame among them
pub record PlacedFrames : Type 0 where
  pub frames : List FrameState
  pub places : List ℕ

abbrev pub placed_frames : List FrameState → (places : List ℕ) → PlacedFrames
placed_frames frames places = record { frames = frames; places = places }

-- the function of `main` alone has begun, before a gate without entries
pub record Opens (functions : List Code) (shape : Shape) (gate : GateState) (table : PlacedFrames) : Type 0 where
  pub main : ℕ
  pub is_main : IsMain functions main
  pub gate_is : gate ≡ opening shape most_entries
  pub frame : FrameState
  pub stands : Stands functions frame
  pub begun : IsAfter functions main 0 [] frame
  pub frames_are : table.frames ≡ frame ∷ []
  pub places_are : table.places ≡ 0 ∷ []

-- The frames are those of the entries, each after what it said with these targets, and no run of these entries has other targets.
pub record IsFrameTable (functions : List Code) (shape : Shape) (main : ℕ) (targets : Targets)
    (entries : Entries) (table : PlacedFrames) : Type 0 where
  pub run : IsRunWith functions shape main targets entries
  pub only : (others : Targets) → IsRunWith functions shape main others entries → (frame : ℕ) → HasFrame entries frame →
      others frame ≡ targets frame
  pub counted : length table.frames ≡ length (frames_in entries)
  pub each : (place number : ℕ) (frame : FrameState) → slice_get (frames_in entries) place ≡ Some number → slice_get table.frames place ≡ Some frame →
      Stands functions frame × IsAfter functions (targets number).function (targets number).argument (said_by targets entries number) frame
  pub strands : length table.places ≡ unused (control_part entries)
  pub placed : (strand place : ℕ) → slice_get table.places strand ≡ Some place →
      slice_get (frames_in entries) place ≡ Some (frame_in entries strand)

-- So it is for some targets, and the gate has these entries.
pub record Plays (functions : List Code) (shape : Shape) (gate : GateState) (table : PlacedFrames) : Type 0 where
  pub shape_is : gate.shape ≡ shape
  pub limit_is : gate.limit ≡ most_entries
  pub going : gate.stopped ≡ false
  pub within : length gate.history ≤ most_entries
  pub main : ℕ
  pub is_main : IsMain functions main
  pub targets : Targets
  pub is_table : IsFrameTable functions shape main targets gate.history table

-- the gate has one more entry
abbrev pub IsPlayed : Entry → GateState → GateState → Type 0
IsPlayed entry before after = after.history ≡ entry ∷ before.history

-- with the entry it is a run only where the history was full or the entry is a refusal
abbrev pub IsMisfit : List Code → Shape → Entry → GateState → Type 0
IsMisfit functions shape entry gate =
    IsRun functions shape (entry ∷ gate.history) → (length gate.history ≡ most_entries) ⊎ IsRefused entry.answer
