use Rattle.std.proofs.Common.{rules}
use Rattle.text_words.proofs.fault.Cause.number.Goals as goal

pub returns : goal.returns
returns c = search rules
