use Rattle.text_buffers.proofs.Builders.{two_adds}
use Rattle.race_explanations.proofs.advice.begin_help.Goals as goal

pub returns : goal.returns
returns c = two_adds _ _ _ _ _ c.push_note_sign.ensures c.push_words.ensures
