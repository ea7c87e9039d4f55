use Rattle.std.proofs.Common.{◌≡◌, ◌∷◌}
use Rattle.text_words.specs.Text.{lines}
use Rattle.trace_text.proofs.RoomFaults.{lines_split}
use Rattle.program_text.specs.Drafts.{held}
use Rattle.program_text.proofs.Taken.{whole_read}
use Rattle.program_text.proofs.text.whole.Goals as goal

pub returns-clause-means : goal.returns-clause-means
returns-clause-means g c =
    let text = c.args.bytes.now in
    let first = c.without_return.result.now in
    let rest = c.split_line.result.1.now in
    let split : lines text ≡ first ∷ lines rest = rw c.without_return.ensures (lines_split text c.split_line.result.0.now rest c.split_line.ensures.pieces) in
    whole_read (λ read. held read.0) c.in-Ok.version text first rest c.body.result split c.in-Ok.ensures c.body.ensures.means
