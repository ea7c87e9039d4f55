use Rattle.trace_text.proofs.Totality.{text_told}
use Rattle.trace_text.proofs.laws.meaning_or_fault.Goals as goal

pub returns : goal.returns
returns c = text_told
