use Rattle.std.proofs.Common.{rules}
use Rattle.trace_text.proofs.line.request_item.Goals as goal

pub returns : goal.returns
returns c = search rules
