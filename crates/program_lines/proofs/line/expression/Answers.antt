use Rattle.std.proofs.Common.{[], ◌∷◌}
use Rattle.std.specs.Prelude.{Ok}
use Rattle.program_lines.specs.Places.{OperandWord, Sign, OfOperand}
use Rattle.program_lines.proofs.Outcomes.{one_word}
use Rattle.program_lines.proofs.line.expression.Goals as goal

pub returns-in-Ok : goal.returns-in-Ok
returns-in-Ok g c =
    rw (c.in-Some.ensures, c.in-None.ensures.0)
    (one_word c.args.scope.now OperandWord (Sign ∷ OperandWord ∷ []) c.in-Some.left.now (Ok c.in-Ok.operand) OfOperand c.in-Ok.ensures)
