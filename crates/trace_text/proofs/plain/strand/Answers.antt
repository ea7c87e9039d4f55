use Rattle.std.proofs.Common.{◌≡◌, slice_index_or, arith}
use Rattle.text_words.specs.Limits.{max_strand}
use Rattle.trace_text.proofs.PlainRequests.{next_number}
use Rattle.trace_text.proofs.plain.strand.Goals as goal

pub returns-in-Some : goal.returns-in-Some
returns-in-Some c =
    let space : slice_index_or c.args.bytes.now 0 0 ≡ 32 = omega arith in
    λ known. next_number known c.args.bytes.now c.in-Some.rest.now 0 max_strand c.in-Some.number c.in-32.len_at_least space c.in-Some.ensures (omega arith) c.if-number-le-STRAND.true
