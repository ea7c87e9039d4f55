use Rattle.std.proofs.Common.{◌≡◌, slice_index_or, arith}
use Rattle.trace_text.proofs.PlainRequests.{ends_marked}
use Rattle.trace_text.proofs.plain.take_mark.Goals as goal

pub returns-in-Some-default-eq10 : goal.returns-in-Some-default-eq10
returns-in-Some-default-eq10 c =
    let behind = c.in-Some-default-eq10.field-0-1.now in
    let space : slice_index_or c.args.bytes.now 0 0 ≡ 32 = omega arith in
    let at : slice_index_or c.args.bytes.now 1 0 ≡ 64 = omega arith in
    let feed : slice_index_or behind 0 0 ≡ 10 = omega arith in
    λ known. ends_marked known c.args.bytes.now behind c.in-Some-default-eq10.line c.in-32.len_at_least space at
    c.in-Some-default-eq10.ensures c.if-line-ge1.true c.if-line-le-STRAND.true c.in-Some-default-eq10.len_at_least feed
