use Rattle.program_text.proofs.Knowing.{known_by, unknown_by}
use Rattle.program_text.proofs.text.function_of.Goals as goal

pub returns-in-Some : goal.returns-in-Some
returns-in-Some c =
    known_by c.args.line.now c.in-Some.text.now c.without_comment.result.now c.of_line.result _ c.without_comment.ensures c.in-Some.ensures.0 c.in-Some.ensures.1
    c.of_line.ensures c.function_in.ensures

pub returns-in-None : goal.returns-in-None
returns-in-None c = unknown_by c.args.line.now c.without_comment.result.now c.without_comment.ensures c.in-None.ensures
