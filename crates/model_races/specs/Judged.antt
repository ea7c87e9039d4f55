-- Which histories are judged rightly.
use Rattle.model_histories.specs.Entries.{Entries}
use Rattle.model_histories.specs.Shapes.{Shape}
use Rattle.model_histories.specs.Legal.{IsLegal}
use Rattle.model_races.specs.Verdicts.{MemoryIsJudged}
use Rattle.model_races.specs.ReducerVerdicts.{ReducersAreJudged}

pub record IsJudged (shape : Shape) (entries : Entries) : Type 0 where
  -- the history is legal
  pub legal : IsLegal shape entries
  -- each access of memory is refused exactly where it races, with a true witness, and each value is what its cell held
  pub memory : MemoryIsJudged entries
  -- each get is unset exactly where no read was granted before, each put or get is refused exactly where one of a strand with other peers
  -- was, with a true witness, and each value of a get is that of the last put and the updates between
  pub reducers : ReducersAreJudged shape entries
