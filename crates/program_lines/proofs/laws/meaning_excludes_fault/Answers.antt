use Rattle.program_lines.proofs.Once.{item_clean}
use Rattle.program_lines.proofs.laws.meaning_excludes_fault.Goals as goal

pub returns : goal.returns
returns c = λ at scope ws item why m f. item_clean scope at ws item m why f
