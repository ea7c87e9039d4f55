use Rattle.program_lines.proofs.Once.{item_once}
use Rattle.program_lines.proofs.laws.one_meaning.Goals as goal

pub returns : goal.returns
returns c = λ at scope ws item other m n. item_once at scope ws item other m n
