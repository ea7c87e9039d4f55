use Rattle.law_traces.proofs.Reducers.{reducer_law}
use Rattle.law_traces.proofs.laws.reducer_law.Goals as goal

pub returns : goal.returns
returns c = reducer_law
