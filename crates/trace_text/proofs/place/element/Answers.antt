use Rattle.std.proofs.Common.{arith, refl}
use Rattle.trace_text.proofs.CellWords.{digits_begin}
use Rattle.trace_text.proofs.NamedWords.{number_fault, element_means, past_array, no_array, array_end}
use Rattle.trace_text.proofs.place.element.Goals as goal

pub returns-in-Err : goal.returns-in-Err
returns-in-Err g c =
    number_fault c.args.names.now c.args.name.now c.args.index.now c.in-Err.why (c.if-not-is_name.ensures.0 refl) (c.in-Err.ensures.reads c.args.names.now)

pub overflow_add-result : goal.overflow_add-result
overflow_add-result g c =
    let found = c.in-Some-Array in
    omega (arith, array_end c.args.names.now c.args.name.now found.first found.cells found.ensures.in_range (rw found.field-0-is at found.ensures.named))

pub returns-then-index-from : goal.returns-then-index-from
returns-then-index-from g c =
    let found = c.in-Some-Array in
    element_means c.args.names.now c.args.name.now c.args.index.now found.first found.cells c.in-Ok.index (c.if-not-is_name.ensures.0 refl)
    (rw found.field-0-is at found.ensures.named) (c.in-Ok.ensures.reads c.args.names.now) (omega arith)

pub returns-else-index-from : goal.returns-else-index-from
returns-else-index-from g c =
    let found = c.in-Some-Array in
    let number = c.in-Ok.ensures.reads c.args.names.now in
    past_array c.args.names.now c.args.name.now c.args.index.now found.first found.cells c.in-Ok.index (c.if-not-is_name.ensures.0 refl)
    (rw found.field-0-is at found.ensures.named) number (digits_begin c.args.index.now number.0.0 number.0.1) (omega arith)

pub returns-in-Some-Single : goal.returns-in-Some-Single
returns-in-Some-Single g c =
    let number = c.in-Ok.ensures.reads c.args.names.now in
    no_array c.args.names.now c.args.name.now c.args.index.now c.in-Ok.index _ (c.if-not-is_name.ensures.0 refl)
    (rw c.in-Some-Single.field-0-is at c.in-Some-Single.ensures.named) refl number (digits_begin c.args.index.now number.0.0 number.0.1)

pub returns-in-Some-Reducer : goal.returns-in-Some-Reducer
returns-in-Some-Reducer g c =
    let number = c.in-Ok.ensures.reads c.args.names.now in
    no_array c.args.names.now c.args.name.now c.args.index.now c.in-Ok.index _ (c.if-not-is_name.ensures.0 refl)
    (rw c.in-Some-Reducer.field-0-is at c.in-Some-Reducer.ensures.named) refl number (digits_begin c.args.index.now number.0.0 number.0.1)

pub returns-in-None : goal.returns-in-None
returns-in-None g c =
    let number = c.in-Ok.ensures.reads c.args.names.now in
    no_array c.args.names.now c.args.name.now c.args.index.now c.in-Ok.index _ (c.if-not-is_name.ensures.0 refl)
    c.in-None.ensures.named refl number (digits_begin c.args.index.now number.0.0 number.0.1)
