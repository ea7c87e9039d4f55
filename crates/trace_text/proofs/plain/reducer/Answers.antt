use Rattle.std.proofs.Common.{◌≡◌, slice_index_or, arith}
use Rattle.trace_text.proofs.PlainRequests.{IsNextName, next_reducer}
use Rattle.trace_text.proofs.plain.reducer.Goals as goal

pub returns-in-Some-Reducer : goal.returns-in-Some-Reducer
returns-in-Some-Reducer g c =
    let name = c.head_word in
    let found = c.in-Some-Reducer in
    let space : slice_index_or c.args.bytes.now 0 0 ≡ 32 = omega arith in
    let next : IsNextName c.args.bytes.now name.result.0.now name.result.1.now =
    record { some = c.in-32.len_at_least; space = space; split = name.ensures; is_name = found.ensures.is_name } in
    next_reducer c.args.names.now c.args.bytes.now name.result.0.now name.result.1.now next found.reducer (rw found.field-0-is at found.ensures.named)
