use Rattle.std.proofs.Common.{rules, ◌++◌, codes, decimal}
use Rattle.text_buffers.proofs.Builders.{these, three_adds, four_adds, number_adds}
use Rattle.source_quotes.proofs.look.push_place.Goals as goal

pub returns : goal.returns
returns c =
    four_adds _ _ _ _ _ _ _ _ _
    (number_adds _ _ _ _ _ _ (three_adds _ _ _ _ _ _ _ c.push_left_sign.ensures c.push_words.ensures c.push_words-2.ensures)
    (these _ _ _ (codes ":" ++ decimal c.args.number) c.push_number.ensures (search rules)))
    c.push_words-3.ensures c.push_gutter.ensures c.push_words-4.ensures
