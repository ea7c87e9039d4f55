use Rattle.trace_text.proofs.Unique.{fault_once}
use Rattle.trace_text.proofs.laws.one_fault.Goals as goal

pub returns : goal.returns
returns c = fault_once
