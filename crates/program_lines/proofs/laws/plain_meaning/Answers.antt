use Rattle.program_lines.proofs.PlainItems.{item_text}
use Rattle.program_lines.proofs.laws.plain_meaning.Goals as goal

pub returns : goal.returns
returns c = λ at scope ws more item numbered some m. item_text at scope ws more item numbered some m
