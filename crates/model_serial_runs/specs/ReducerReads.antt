-- Which strands see another view of a reducer (Lee and Schardl 2015).
use Rattle.std.specs.Prelude.{ℕ}
use Rattle.model_strands.specs.History.{History}
use Rattle.model_strands.specs.Legal.{Legal}
use Rattle.model_strands.specs.Extensions.{Extends, IsFinished}
use Rattle.model_strands.specs.Peers.{HaveSamePeers}

-- the whole is a legal history that begins with this one, and at whose end the root function returns
pub record Completes (whole history : History) : Type 0 where
  pub extends : Extends whole history
  pub legal : Legal whole
  pub finished : IsFinished whole

-- a read of a reducer: the reducer's number, the strand, and its place in the program, as a number
pub record ReducerRead : Type 0 where
  pub reducer : ℕ
  pub strand : ℕ
  pub site : ℕ

-- the earlier read of the reducer races with a new one by this strand: however the run goes on, the two strands have different peers
abbrev pub ViewRaces : History → ℕ → ReducerRead → Type 0
ViewRaces history strand read = (whole : History) → Completes whole history → HaveSamePeers whole read.strand strand → ⊥
