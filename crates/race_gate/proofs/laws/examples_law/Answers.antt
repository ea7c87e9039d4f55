use Rattle.race_gate.proofs.Examples.{worked_histories}
use Rattle.race_gate.proofs.ReducerExamples.{worked_reducers}
use Rattle.race_gate.proofs.laws.examples_law.Goals as goal

pub returns : goal.returns
returns c = record { cells = worked_histories; reducers = worked_reducers }
