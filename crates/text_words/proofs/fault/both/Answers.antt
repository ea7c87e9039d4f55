use Rattle.std.proofs.Common.{arith}
use Rattle.std.proofs.lemmas.Grind.{common_steps}
use Rattle.text_words.proofs.fault.both.Goals as goal

pub returns-after-b-2 : goal.returns-after-b-2
returns-after-b-2 g c = grind (arith, common_steps)
