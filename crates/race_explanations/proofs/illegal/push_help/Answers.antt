use Rattle.text_buffers.proofs.Builders.{these, four_adds}
use Rattle.race_explanations.proofs.illegal.push_help.Goals as goal

pub returns : goal.returns
returns c =
    four_adds _ _ _ _ _ _ _ _ _ c.push_note_sign.ensures c.push_words.ensures (these _ _ _ _ c.push_words-2.ensures c.help_words.ensures) c.push_words-3.ensures
