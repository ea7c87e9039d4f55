use Rattle.std.proofs.Common.{◌≤◌, ◌+◌, length, arith}
use Rattle.std.proofs.lemmas.List.{take_more_same}
use Rattle.trace_text.proofs.plain.behind_word.Goals as goal

pub loop-length-preserved : goal.loop-length-preserved
loop-length-preserved c =
    let more : c.loop-length.length + 1 ≤ length c.args.word.now = omega arith in
    (more, take_more_same c.args.text.now c.args.word.now c.loop-length.length 0 (omega arith) (omega arith) c.loop-length.invariant.1 (omega arith))
