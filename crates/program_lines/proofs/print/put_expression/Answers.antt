use Rattle.program_lines.proofs.print.put_expression.Goals as goal

pub returns-in-Difference : goal.returns-in-Difference
returns-in-Difference g c = λ version mems reducers functions. rw c.in-Difference.is c.put_joined-in-Difference.ensures
