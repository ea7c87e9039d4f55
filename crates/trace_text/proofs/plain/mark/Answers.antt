use Rattle.std.proofs.Common.{◌≡◌, slice_index_or, arith}
use Rattle.trace_text.proofs.PlainRequests.{ends_plain}
use Rattle.trace_text.proofs.plain.mark.Goals as goal

pub returns-in-10 : goal.returns-in-10
returns-in-10 c =
    let feed : slice_index_or c.args.bytes.now 0 0 ≡ 10 = omega arith in
    λ known. ends_plain known c.args.bytes.now c.in-10.len_at_least feed
