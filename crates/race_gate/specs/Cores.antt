-- What a gate is without the list of its entries.
use Rattle.std.specs.Prelude.{◌≡◌, ◌↔◌, ℕ, Bool, IsTrue, List, length, Result, Ok, Err}
use Rattle.model_accesses.specs.declared.request.Request.{Request}
use Rattle.model_histories.specs.declared.answer.Answer.{Answer}
use Rattle.model_histories.specs.declared.reply.Reply.{Reply}
use Rattle.model_histories.specs.declared.reply.Reply.TheVariants.{Done, Illegal}
use Rattle.model_histories.specs.declared.fault.GateFault.{GateFault}
use Rattle.model_histories.specs.Entries.{Entries}
use Rattle.model_histories.specs.Shapes.{Shape}
use Rattle.model_histories.specs.Extensions.{IsFinished}
use Rattle.model_histories.specs.States.{GateState}
use Rattle.race_gate.specs.Kept.{TracksState, IsKept}

-- what a core shows: the shape and the limit that it was made with, whether it was stopped, how many entries there were, whether the root
-- function has returned, the cells' values, and what is kept of the strands, of the granted accesses of cells, and of the reducers
pub record CoreState : Type 0 where
  pub shape : Shape
  pub limit : ℕ
  pub stopped : Bool
  pub entries : ℕ
  pub finished : Bool
  pub memory : List ℕ
  pub tracks : TracksState

-- the state of a gate that has the core and these entries
abbrev pub with_history : CoreState → Entries → GateState
with_history core history =
    record { shape = core.shape; limit = core.limit; stopped = core.stopped; history = history; memory = core.memory }

-- The state fits the core: with the state's entries the core shows the state, it has counted them, and what it keeps is that of the state.
pub record IsCoreOf (core : CoreState) (state : GateState) : Type 0 where
  pub shown : with_history core state.history ≡ state
  pub counted : core.entries ≡ length state.history
  pub finished : IsTrue core.finished ↔ IsFinished state.history
  pub kept : IsKept state core.tracks

-- some state fits
abbrev pub IsCore : CoreState → Type 0
IsCore core = (state : GateState) × IsCoreOf core state

-- the reply that has the result, where an entry's number would be this one
abbrev pub reply_with : ℕ → Request → Result Answer GateFault → Reply
reply_with number request (Ok answer) = Done (record { number = number; request = request; answer = answer })
reply_with number request (Err fault) = Illegal fault
