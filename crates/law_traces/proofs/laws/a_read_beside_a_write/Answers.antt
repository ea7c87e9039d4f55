use Rattle.law_traces.proofs.Omissions.{read_beside_write_law}
use Rattle.law_traces.proofs.laws.a_read_beside_a_write.Goals as goal

pub returns : goal.returns
returns c = read_beside_write_law
