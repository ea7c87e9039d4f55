use Rattle.std.proofs.Common.{◌≡◌, ◌≤◌, ◌<◌, ◌+◌, ◌++◌, ◌∙◌, ℕ, List, take, length, ap, sym, arith}
use Rattle.std.proofs.lemmas.List.{take-append-drop, length-take-le}
use Rattle.trace_text.proofs.HeadDigits.{one_more_digit, room_for_digit, plain_digits, not_padded, value_bound}
use Rattle.trace_text.proofs.plain.number_within.Goals as goal

pub overflow_mul-value : goal.overflow_mul-value
overflow_mul-value c =
    let room = room_for_digit c.loop-length.value c.loop-length.length c.loop-length.invariant.3 (omega arith) in
    omega (arith, room)

pub overflow_add-value : goal.overflow_add-value
overflow_add-value c =
    let room = room_for_digit c.loop-length.value c.loop-length.length c.loop-length.invariant.3 (omega arith) in
    omega (arith, room)

pub loop-length-preserved : goal.loop-length-preserved
loop-length-preserved c =
    let was = c.loop-length.invariant in
    let read = c.digit_of-digit.ensures c.if-digit-gt9.false in
    let step = one_more_digit c.args.bytes.now c.loop-length.length c.loop-length.value c.digit_of-digit.result (omega arith) was.1 was.2 was.3
    (omega (arith, read)) (omega (arith, read)) (omega (arith, read)) in
    let more : c.loop-length.length + 1 ≤ c.args.most = omega arith in
    (more, step.0, step.1, step.2)

pub returns : goal.returns
returns c =
    let bytes = c.args.bytes.now in
    let at = c.loop-length.length in
    let was = c.loop-length.invariant in
    let some : 0 < at = omega arith in
    let within : at ≤ length bytes = omega arith in
    let front : bytes ≡ take at bytes ++ c.split_at.result.1.now =
    sym (ap (λ (rest : List ℕ). take at bytes ++ rest) c.split_at.ensures.back ∙ take-append-drop at bytes) in
    let count : length (take at bytes) ≡ at = length-take-le at bytes within in
    let room = value_bound c.loop-length.value at was.3 (omega arith) in (
      take at bytes,
      front,
      (omega (arith, count, some), was.1, was.2),
      room,
      plain_digits bytes at c.loop-length.value some within (omega arith) was.1 was.2 was.3 (not_padded c.is_padded.result bytes at c.if-is_padded.false c.is_padded.ensures),
    )
