use Rattle.program_lines.proofs.Totality.{line_told}
use Rattle.program_lines.proofs.laws.meaning_or_fault.Goals as goal

pub returns : goal.returns
returns c = line_told
