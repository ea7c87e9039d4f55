use Rattle.std.proofs.Common.{rules}
use Rattle.command_words.proofs.words.limit_of.Goals as goal

pub returns-in-Ok-clause-limit : goal.returns-in-Ok-clause-limit
returns-in-Ok-clause-limit c = search rules
