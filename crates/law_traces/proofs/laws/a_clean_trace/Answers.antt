use Rattle.law_traces.proofs.CleanTraces.{clean_trace_law}
use Rattle.law_traces.proofs.laws.a_clean_trace.Goals as goal

pub returns : goal.returns
returns c = clean_trace_law
