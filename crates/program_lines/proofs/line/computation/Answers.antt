use Rattle.std.proofs.Common.{refl}
use Rattle.program_lines.proofs.Outcomes.{joined_words}
use Rattle.program_lines.proofs.line.computation.Goals as goal

pub returns-in-Ok : goal.returns-in-Ok
returns-in-Ok g c =
    let scope = c.args.scope.now in
    rw (c.in-Some-one.ensures, c.expression_of.ensures)
    (joined_words scope c.args.left.now c.args.sign.now c.in-Some-one.right.now c.in-Some.operator c.operand.result c.operand-2.result _ c.in-Ok.ensures c.operand.ensures ((c.in-Some.ensures c.in-Some.operator).0 refl) c.operand-2.ensures)

pub returns-in-Err : goal.returns-in-Err
returns-in-Err g c =
    let scope = c.args.scope.now in
    rw c.in-Some-one.ensures
    (joined_words scope c.args.left.now c.args.sign.now c.in-Some-one.right.now c.in-Some.operator c.operand.result c.operand-2.result _ c.in-Err.ensures c.operand.ensures ((c.in-Some.ensures c.in-Some.operator).0 refl) c.operand-2.ensures)
