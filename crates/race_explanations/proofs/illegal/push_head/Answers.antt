use Rattle.text_buffers.proofs.Builders.{these, two_adds, three_adds, four_adds}
use Rattle.race_explanations.proofs.illegal.push_head.Goals as goal

pub returns : goal.returns
returns c =
    four_adds _ _ _ _ _ _ _ _ _
    (two_adds _ _ _ _ _ c.push_painted.ensures
    (three_adds _ _ _ _ _ _ _ c.push_words.ensures (these _ _ _ _ c.push_words-2.ensures c.title_words.ensures) c.push_words-3.ensures))
    c.push_place.ensures c.push_marked_line.ensures c.push_words-4.ensures
