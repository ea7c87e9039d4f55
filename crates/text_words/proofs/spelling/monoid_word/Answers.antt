use Rattle.std.proofs.Common.{rules}
use Rattle.text_words.proofs.spelling.monoid_word.Goals as goal

pub returns-in-Max : goal.returns-in-Max
returns-in-Max c = search rules
