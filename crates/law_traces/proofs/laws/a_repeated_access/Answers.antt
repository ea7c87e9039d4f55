use Rattle.law_traces.proofs.Omissions.{repeated_access_law}
use Rattle.law_traces.proofs.laws.a_repeated_access.Goals as goal

pub returns : goal.returns
returns c = repeated_access_law
