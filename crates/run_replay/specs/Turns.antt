-- What a frame and a gate make of an entry.
use Rattle.std.specs.Prelude.{◌≡◌, ◌⊎◌, ◌<◌, ℕ, false, List, [], ◌∷◌, ◌++◌, length, Option, Some, None, IfSome}
use Rattle.model_histories.specs.declared.answer.Entry.{Entry}
use Rattle.model_races.specs.Judged.{IsJudged}
use Rattle.model_histories.specs.States.{GateState}
use Rattle.model_races.specs.Verdicts.{IsRefused}
use Rattle.model_bodies.specs.Codes.{Code}
use Rattle.model_programs.specs.declared.target.Target.{Target}
use Rattle.model_programs.specs.Exchanges.{Exchange}
use Rattle.frame_steps.specs.States.{FrameState}
use Rattle.frame_steps.specs.Frames.{Stands, IsAfter, CanFollow}
use Rattle.model_runs.specs.Frames.{target_of}

-- the entry as an exchange that spawns this
abbrev pub asks : Entry → Option Target → Exchange
asks entry target = record { act = entry.request.act; line = entry.request.line; target = target; answer = entry.answer }

-- some target, where one is there
abbrev pub target_or : Option Target → Target → Target
target_or None other = other
target_or (Some target) other = target

-- The frame went on by the entry, which spawns this and could spawn nothing else.
pub record IsTurn (functions : List Code) (entry : Entry) (target : Option Target) (before after : FrameState) : Type 0 where
  pub stands : Stands functions after
  pub there : IfSome target (λ one. one.function < length functions)
  pub fits : (other : Target) → target_of entry.request.act (target_or target other) ≡ target
  pub goes_on : (function argument : ℕ) (history : List Exchange) → IsAfter functions function argument history before →
      IsAfter functions function argument (history ++ asks entry target ∷ []) after
  pub only : (function argument : ℕ) (history : List Exchange) (x : Exchange) → IsAfter functions function argument history before →
      CanFollow functions function argument history x → x.target ≡ target

-- The frame does not go on so.
abbrev pub HasNoTurn : List Code → Entry → FrameState → Type 0
HasNoTurn functions entry frame =
    (function argument : ℕ) (history : List Exchange) (target : Option Target) → IsAfter functions function argument history frame →
    CanFollow functions function argument history (asks entry target) → ⊥

-- The gate has this entry now, and is as before.
pub record IsEntered (entry : Entry) (before after : GateState) : Type 0 where
  pub shape : after.shape ≡ before.shape
  pub limit : after.limit ≡ before.limit
  pub stopped : after.stopped ≡ before.stopped
  pub history : after.history ≡ entry ∷ before.history
  pub below : length before.history < before.limit
  pub judged : IsJudged after.shape after.history

-- A gate that was not stopped does not answer so, but where the history is full, or where it refuses as the entry does with another
-- witness.
abbrev pub IsOdd : Entry → GateState → Type 0
IsOdd entry gate =
    gate.stopped ≡ false → IsJudged gate.shape (entry ∷ gate.history) → (length gate.history ≡ gate.limit) ⊎ IsRefused entry.answer
