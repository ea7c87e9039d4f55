use Rattle.program_lines.proofs.print.put_argument.Goals as goal

pub returns-in-Computed : goal.returns-in-Computed
returns-in-Computed g c = λ version reducers functions. rw c.in-Computed.is (c.put_expression.ensures version c.args.mems.now reducers functions)
