-- What is right of what a gate shows.
use Rattle.model_histories.specs.States.{GateState}
use Rattle.model_races.specs.Judged.{IsJudged}
use Rattle.model_races.specs.Memory.{IsMemory}

-- the history is judged rightly, and the memory is what it leaves
pub record IsRight (state : GateState) : Type 0 where
  pub judged : IsJudged state.shape state.history
  pub memory : IsMemory state.shape.cells state.history state.memory
