use Rattle.std.proofs.Common.{sym, ◌∙◌}
use Rattle.text_words.proofs.WordsOfLine.{comment_found, no_comment}
use Rattle.text_words.proofs.words.without_comment.Goals as goal

pub returns-in-Some : goal.returns-in-Some
returns-in-Some c = comment_found c.args.line.now c.in-Some.at (sym c.comment_at.ensures ∙ c.in-Some.is)

pub returns-in-None : goal.returns-in-None
returns-in-None c = no_comment c.args.line.now (sym c.comment_at.ensures ∙ c.in-None.is)
