use Rattle.text_buffers.proofs.Builders.{four_adds, five_adds}
use Rattle.program_text.specs.Programs.{contents}
use Rattle.program_warnings.proofs.Telling.{warning_told}
use Rattle.program_warnings.proofs.message.push_warning.Goals as goal

pub returns : goal.returns
returns c =
    warning_told c.args.look c.args.file.now c.args.source.now (contents c.args.program.now) c.args.warning c.line_of_warning-number.result c.line-line.result.now
    c.span_of-span.result _ _ c.line_of_warning-number.ensures c.line-line.ensures c.span_of-span.ensures
    (four_adds _ _ _ _ _ _ _ _ _
    (five_adds _ _ _ _ _ _ _ _ _ _ _ c.push_painted.ensures c.push_words.ensures c.push_title.ensures c.push_words-2.ensures c.push_place.ensures)
    c.push_quote.ensures c.push_sign_below.ensures c.push_words-3.ensures)
