use Rattle.text_buffers.proofs.Builders.{five_adds}
use Rattle.race_explanations.proofs.advice.push_move_help.Goals as goal

pub returns : goal.returns
returns c =
    five_adds _ _ _ _ _ _ _ _ _ _ _ c.push_words.ensures c.push_line.ensures c.push_words-2.ensures c.push_function.ensures c.push_words-3.ensures
