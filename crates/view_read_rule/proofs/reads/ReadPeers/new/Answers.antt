use Rattle.std.proofs.Common.{arith}
use Rattle.view_read_rule.proofs.reads.ReadPeers.new.Goals as goal

pub returns-clause-reducers : goal.returns-clause-reducers
returns-clause-reducers g c = omega (arith, c.in_ok-vec.ensures.len, c.in_ok-vec.field-0.ok.0)
