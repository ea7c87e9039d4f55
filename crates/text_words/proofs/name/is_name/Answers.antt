use Rattle.std.proofs.Common.{arith}
use Rattle.std.proofs.lemmas.Grind.{common_steps}
use Rattle.text_words.proofs.name.is_name.Goals as goal

pub returns-then-rest-lt-NAME_LEN : goal.returns-then-rest-lt-NAME_LEN
returns-then-rest-lt-NAME_LEN c = grind (arith, common_steps)
