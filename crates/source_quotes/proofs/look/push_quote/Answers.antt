use Rattle.std.proofs.Common.{rules, ◌-◌, length, decimal, replicate}
use Rattle.text_buffers.proofs.Builders.{these, two_adds, three_adds, four_adds}
use Rattle.source_quotes.proofs.look.push_quote.Goals as goal

pub returns : goal.returns
returns c =
    let column = these _ _ _ (replicate (c.args.look.width - length (decimal c.args.number)) 32) c.push_repeated.ensures (search rules) in
    let digits = these _ _ _ (decimal c.args.number) c.push_words-2.ensures (search rules) in
    four_adds _ _ _ _ _ _ _ _ _
    (two_adds _ _ _ _ _ column
    (three_adds _ _ _ _ _ _ _ (these _ _ _ _ c.push_words.ensures c.paint_codes.ensures.start) (two_adds _ _ _ _ _ digits c.push_words-3.ensures)
    (these _ _ _ _ c.push_words-4.ensures c.paint_codes.ensures.end)))
    c.push_words-5.ensures (these _ _ _ _ c.push_bytes.ensures c.line.ensures) c.push_words-6.ensures
