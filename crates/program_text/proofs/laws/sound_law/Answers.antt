use Rattle.program_text.proofs.Whole.{whole_of_text}
use Rattle.program_text.proofs.laws.sound_law.Goals as goal

pub returns : goal.returns
returns c = λ text contents means. (whole_of_text text contents means).sound
