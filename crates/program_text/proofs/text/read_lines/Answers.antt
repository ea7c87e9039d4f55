use Rattle.std.proofs.Common.{◌≡◌, ◌∷◌, arith}
use Rattle.std.proofs.lemmas.Bool.Decides.{nat_tests}
use Rattle.text_words.specs.Text.{lines}
use Rattle.trace_text.proofs.RoomFaults.{lines_split}
use Rattle.program_text.proofs.Knowing.{no_lines}
use Rattle.program_text.proofs.Taken.{decides_more, decides_end, fault_here}
use Rattle.program_text.proofs.text.read_lines.Goals as goal

pub loop-rest-init : goal.loop-rest-init
loop-rest-init g c = record { few = omega arith; decides = record { means = λ contents m. m; faults = λ bad cause f. f } }

pub loop-rest-preserved : goal.loop-rest-preserved
loop-rest-preserved g c =
    let rest = c.loop-rest.rest.now in
    let line = c.without_return.result.now in
    let after = c.split_line.result.1.now in
    let split : lines rest ≡ line ∷ lines after = rw c.without_return.ensures (lines_split rest c.split_line.result.0.now after c.split_line.ensures.pieces) in
    let read = c.in_default.ensures in
    let more = decides_more c.args.names.now c.args.draft.now (lines c.args.text.now) c.loop-rest.at c.loop-rest.draft (lines rest) c.loop-rest.invariant.decides line (lines after) read.0 split read.1 in
    let few = read.1.0 in
    record { few = omega (arith, few); decides = rw read.2 more }

pub returns : goal.returns
returns g c =
    decides_end c.args.names.now c.args.draft.now (lines c.args.text.now) c.loop-rest.at c.loop-rest.draft (lines c.loop-rest.rest.now) c.loop-rest.invariant.decides
    (no_lines c.loop-rest.rest.now (grind (arith, nat_tests)))

pub returns-in-Err : goal.returns-in-Err
returns-in-Err g c =
    let rest = c.loop-rest.rest.now in
    let line = c.without_return.result.now in
    let after = c.split_line.result.1.now in
    let split : lines rest ≡ line ∷ lines after = rw c.without_return.ensures (lines_split rest c.split_line.result.0.now after c.split_line.ensures.pieces) in
    fault_here c.args.names.now c.args.draft.now (lines c.args.text.now) c.loop-rest.at c.loop-rest.draft (lines rest) c.loop-rest.invariant.decides line (lines after) c.in-Err.fault split c.in-Err.ensures
