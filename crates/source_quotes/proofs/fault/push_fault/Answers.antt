use Rattle.std.proofs.Common.{ap}
use Rattle.source_quotes.specs.declared.look.Paint.TheVariants.{Red}
use Rattle.source_quotes.specs.Parts.{sign_below}
use Rattle.text_buffers.proofs.Builders.{these, two_adds, four_adds}
use Rattle.source_quotes.proofs.fault.push_fault.Goals as goal

pub returns : goal.returns
returns c =
    let quoted = two_adds _ _ _ _ _ c.push_quote.ensures
    (these _ _ _ _ c.push_sign_below.ensures (ap (λ line. sign_below c.args.look Red line c.args.span 94) c.line.ensures)) in
    two_adds _ _ _ _ _
    (four_adds _ _ _ _ _ _ _ _ _
    (four_adds _ _ _ _ _ _ _ _ _ c.push_painted.ensures c.push_words.ensures (these _ _ _ _ c.push_words-2.ensures c.title.ensures) c.push_words-3.ensures)
    c.push_place.ensures quoted c.push_words-4.ensures)
    c.push_bytes.ensures
