use Rattle.std.proofs.Common.{◌≡◌, slice_index_or, arith}
use Rattle.std.proofs.lemmas.Option.{IfSome_then}
use Rattle.trace_text.proofs.NamedWords.{array_end}
use Rattle.trace_text.proofs.PlainRequests.{IsNextName, next_single, next_element}
use Rattle.trace_text.proofs.plain.cell.Goals as goal

pub element-requires : goal.element-requires
element-requires g c =
    let found = c.in-Some-Array in
    array_end c.args.names.now c.head_word.result.0.now found.first found.cells found.ensures.in_range (rw found.field-0-is at found.ensures.named)

pub returns-in-Some-Single : goal.returns-in-Some-Single
returns-in-Some-Single g c =
    let name = c.head_word in
    let found = c.in-Some-Single in
    let space : slice_index_or c.args.bytes.now 0 0 ≡ 32 = omega arith in
    let next : IsNextName c.args.bytes.now name.result.0.now name.result.1.now =
    record { some = c.in-32.len_at_least; space = space; split = name.ensures; is_name = found.ensures.is_name } in
    next_single c.args.names.now c.args.bytes.now name.result.0.now name.result.1.now next found.cell (rw found.field-0-is at found.ensures.named)

pub returns-in-Some-Array : goal.returns-in-Some-Array
returns-in-Some-Array g c =
    let name = c.head_word in
    let found = c.in-Some-Array in
    let space : slice_index_or c.args.bytes.now 0 0 ≡ 32 = omega arith in
    let next : IsNextName c.args.bytes.now name.result.0.now name.result.1.now =
    record { some = c.in-32.len_at_least; space = space; split = name.ensures; is_name = found.ensures.is_name } in
    let array = rw found.field-0-is at found.ensures.named in
    IfSome_then c.element.result c.element.ensures
    (λ r has. next_element c.args.names.now c.args.bytes.now name.result.0.now name.result.1.now next found.first found.cells r.0 r.1.now array found.ensures.in_range has)
