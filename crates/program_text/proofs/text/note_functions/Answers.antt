use Rattle.std.proofs.Common.{◌≡◌, ◌∷◌, arith, sym, ◌∙◌}
use Rattle.std.proofs.lemmas.Bool.Decides.{nat_tests}
use Rattle.text_words.specs.Text.{lines}
use Rattle.trace_text.proofs.RoomFaults.{lines_split}
use Rattle.program_text.proofs.Knowing.{names_step, names_done, no_lines}
use Rattle.program_text.specs.Functions.{function_named, with_function}
use Rattle.program_text.proofs.text.note_functions.Goals as goal

pub loop-rest-preserved : goal.loop-rest-preserved
loop-rest-preserved g c =
    let rest = c.loop-rest.rest.now in
    let line = c.without_return.result.now in
    let after = c.split_line.result.1.now in
    let split : lines rest ≡ line ∷ lines after = rw c.without_return.ensures (lines_split rest c.split_line.result.0.now after c.split_line.ensures.pieces) in
    let noted : c.note_function.new.names ≡ with_function c.loop-rest.names (function_named line) = c.in_ok-note_function.ensures in
    rw noted (sym (names_step c.loop-rest.names (lines rest) line (lines after) split) ∙ c.loop-rest.invariant)

pub returns : goal.returns
returns g c =
    sym (names_done c.loop-rest.names (lines c.loop-rest.rest.now) (no_lines c.loop-rest.rest.now (grind (arith, nat_tests)))) ∙ c.loop-rest.invariant
