use Rattle.std.proofs.Common.{ap}
use Rattle.source_quotes.specs.Quotes.{sign}
use Rattle.text_buffers.proofs.Builders.{these, two_adds}
use Rattle.source_quotes.proofs.look.push_marked_line.Goals as goal

pub returns : goal.returns
returns c =
    two_adds _ _ _ _ _ c.push_quote.ensures
    (these _ _ _ _ c.push_sign.ensures (ap (λ line. sign c.args.look line c.args.mark) c.line.ensures))
