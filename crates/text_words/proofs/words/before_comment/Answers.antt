use Rattle.std.proofs.Common.{rules}
use Rattle.text_words.proofs.words.before_comment.Goals as goal

pub returns-in-Some : goal.returns-in-Some
returns-in-Some c = search rules
