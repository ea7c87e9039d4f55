use Rattle.std.proofs.Common.{rules}
use Rattle.text_words.proofs.spelling.version_word.Goals as goal

pub returns-in-One : goal.returns-in-One
returns-in-One c = search rules
