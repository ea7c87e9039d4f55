use Rattle.std.proofs.Common.{rules, take, replicate}
use Rattle.source_quotes.specs.Lines.{blanks, statement_length}
use Rattle.text_buffers.proofs.Builders.{these, three_adds, four_adds}
use Rattle.source_quotes.proofs.look.push_sign.Goals as goal

pub returns : goal.returns
returns c =
    let front = these _ _ _ (take (blanks c.args.line.now) c.args.line.now) c.push_bytes.ensures (search rules) in
    let mark = these _ _ _ (replicate (statement_length c.args.line.now) c.args.mark) c.push_repeated.ensures (search rules) in
    four_adds _ _ _ _ _ _ _ _ _ c.push_gutter.ensures c.push_words.ensures front
    (three_adds _ _ _ _ _ _ _ (these _ _ _ _ c.push_words-2.ensures c.paint_codes.ensures.start) mark
    (these _ _ _ _ c.push_words-3.ensures c.paint_codes.ensures.end))
