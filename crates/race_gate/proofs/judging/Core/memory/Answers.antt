use Rattle.race_gate.proofs.judging.Core.memory.Goals as goal

pub returns-clause-cells : goal.returns-clause-cells
returns-clause-cells g c = cc
