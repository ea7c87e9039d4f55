use Rattle.text_buffers.proofs.Builders.{these, two_adds, five_adds}
use Rattle.race_explanations.proofs.group.push_first_line.Goals as goal

pub returns : goal.returns
returns c =
    two_adds _ _ _ _ _
    (five_adds _ _ _ _ _ _ _ _ _ _ _ c.push_count.ensures (these _ _ _ _ c.push_words.ensures c.pairs_words.ensures) c.push_words-2.ensures c.push_line.ensures
    c.push_words-3.ensures) c.push_beside.ensures
