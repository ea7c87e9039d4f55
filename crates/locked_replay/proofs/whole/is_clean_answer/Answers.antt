use Rattle.std.proofs.Common.{rules}
use Rattle.locked_replay.proofs.whole.is_clean_answer.Goals as goal

pub returns : goal.returns
returns c = search rules
