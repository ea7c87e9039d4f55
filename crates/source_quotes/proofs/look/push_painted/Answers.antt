use Rattle.text_buffers.proofs.Builders.{these, three_adds}
use Rattle.source_quotes.proofs.look.push_painted.Goals as goal

pub returns : goal.returns
returns c =
    three_adds _ _ _ _ _ _ _ (these _ _ _ _ c.push_words.ensures c.paint_codes.ensures.start) c.push_words-2.ensures
    (these _ _ _ _ c.push_words-3.ensures c.paint_codes.ensures.end)
