use Rattle.std.proofs.Common.{◌≡◌, ◌∷◌}
use Rattle.text_words.specs.Text.{lines}
use Rattle.trace_text.specs.Drafts.{so_far}
use Rattle.trace_text.proofs.RoomFaults.{lines_split, whole_read}
use Rattle.trace_text.proofs.trace.read_whole.Goals as goal

pub returns : goal.returns
returns g c =
    let text = c.args.bytes.now in
    let first = c.without_return.result.now in
    let rest = c.split_line.result.1.now in
    let split : lines text ≡ first ∷ lines rest = rw c.without_return.ensures (lines_split text c.split_line.result.0.now rest c.split_line.ensures.pieces) in
    whole_read (λ r. so_far r.0.names r.0.lines) (λ r. r.1) c.in-Ok.version text first rest c.read_body.result split c.in-Ok.ensures c.read_body.ensures
