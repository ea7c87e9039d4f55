use Rattle.std.proofs.Common.{◌≡◌, slice_index_or, arith}
use Rattle.text_words.specs.Limits.{max_value}
use Rattle.trace_text.proofs.PlainRequests.{next_number}
use Rattle.trace_text.proofs.plain.value.Goals as goal

pub returns : goal.returns
returns c =
    let space : slice_index_or c.args.bytes.now 0 0 ≡ 32 = omega arith in
    let number = c.in-Some in
    λ known. next_number known c.args.bytes.now number.rest.now 0 max_value number.value c.in-32.len_at_least space number.ensures (omega arith) number.ensures.3
