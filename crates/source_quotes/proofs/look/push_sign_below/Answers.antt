use Rattle.std.proofs.Common.{ap}
use Rattle.source_quotes.specs.Parts.{indent}
use Rattle.text_buffers.proofs.Builders.{these, three_adds, four_adds}
use Rattle.source_quotes.proofs.look.push_sign_below.Goals as goal

pub returns : goal.returns
returns c =
    four_adds _ _ _ _ _ _ _ _ _ c.push_gutter.ensures c.push_words.ensures (these _ _ _ _ c.push_indent.ensures (ap indent c.split_at.ensures.front))
    (three_adds _ _ _ _ _ _ _ (these _ _ _ _ c.push_words-2.ensures c.paint_codes.ensures.start) c.push_repeated.ensures
    (these _ _ _ _ c.push_words-3.ensures c.paint_codes.ensures.end))
