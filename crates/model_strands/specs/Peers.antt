-- The peers of a strand (Lee and Schardl 2015).
use Rattle.std.specs.Prelude.{◌↔◌, ℕ}
use Rattle.model_strands.specs.History.{History}
use Rattle.model_strands.specs.Strands.{Begun}
use Rattle.model_strands.specs.Dag.{IsParallel}

-- the other one is begun and parallel to the strand
abbrev pub Peers : History → ℕ → ℕ → Type 0
Peers history strand other = Begun history other × IsParallel history strand other

abbrev pub HaveSamePeers : History → ℕ → ℕ → Type 0
HaveSamePeers history strand other = (peer : ℕ) → Peers history strand peer ↔ Peers history other peer
