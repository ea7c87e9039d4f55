use Rattle.trace_text.proofs.PlainPieces.{takes_front}
use Rattle.trace_text.proofs.pieces.BegunTrace.take_plain.Goals as goal

pub take_plain_lines-last-requires : goal.take_plain_lines-last-requires
take_plain_lines-last-requires g c = c.requires.1.few

pub returns : goal.returns
returns g c = takes_front _ _ _ _ c.requires c.take_plain_lines-last.ensures
