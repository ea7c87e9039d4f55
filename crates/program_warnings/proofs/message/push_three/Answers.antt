use Rattle.text_buffers.proofs.Builders.{three_adds}
use Rattle.program_warnings.proofs.message.push_three.Goals as goal

pub returns : goal.returns
returns c = three_adds _ _ _ _ _ _ _ c.push_words.ensures c.push_words-2.ensures c.push_words-3.ensures
