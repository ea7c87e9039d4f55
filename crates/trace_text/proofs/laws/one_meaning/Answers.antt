use Rattle.trace_text.proofs.Unique.{text_once}
use Rattle.trace_text.proofs.laws.one_meaning.Goals as goal

pub returns : goal.returns
returns c = text_once
