use Rattle.std.proofs.Common.{rules}
use Rattle.text_words.proofs.spelling.monoid_of.Goals as goal

pub returns-in-digits : goal.returns-in-digits
returns-in-digits c = search rules

pub returns-in_default : goal.returns-in_default
returns-in_default c = search rules
