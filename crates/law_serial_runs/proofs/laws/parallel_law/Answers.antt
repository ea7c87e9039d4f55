use Rattle.law_serial_runs.proofs.Earlier.{serial_parallel_law, spans_law}
use Rattle.law_serial_runs.proofs.laws.parallel_law.Goals as goal

pub returns : goal.returns
returns c = record { earlier = serial_parallel_law; spans = spans_law }
