use Rattle.text_buffers.proofs.Builders.{three_adds, five_adds}
use Rattle.race_explanations.proofs.paths.push_placed.Goals as goal

pub returns : goal.returns
returns c =
    three_adds _ _ _ _ _ _ _
    (five_adds _ _ _ _ _ _ _ _ _ _ _ c.push_left_sign.ensures c.push_words.ensures c.push_site.ensures c.push_place_within.ensures c.push_words-2.ensures)
    c.push_code.ensures c.push_left_sign-2.ensures
