use Rattle.text_buffers.proofs.Builders.{two_adds}
use Rattle.source_quotes.proofs.look.push_note_sign.Goals as goal

pub returns : goal.returns
returns c = two_adds _ _ _ _ _ c.push_left_sign.ensures c.push_words.ensures
