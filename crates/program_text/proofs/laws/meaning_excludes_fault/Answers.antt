use Rattle.program_text.proofs.Unique.{text_exclusive}
use Rattle.program_text.proofs.laws.meaning_excludes_fault.Goals as goal

pub returns : goal.returns
returns c = text_exclusive
