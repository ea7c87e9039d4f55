use Rattle.std.proofs.Common.{arith}
use Rattle.std.specs.Prelude.{string_bytes}
use Rattle.trace_text.specs.Printing.{known_of}
use Rattle.program_text.specs.Printing.{names_of}
use Rattle.program_text.proofs.Printed.{body_step, body_done}
use Rattle.program_text.proofs.print.put_body.Goals as goal

pub loop-statement-preserved : goal.loop-statement-preserved
loop-statement-preserved g c = λ version more.
    body_step (known_of version c.args.mems.now c.args.reducers.now) (names_of c.args.functions.now) c.args.registers.now c.args.body.now c.loop-statement.statement-index c.statement-item.result
    (string_bytes c.loop-statement.out) (string_bytes c.put_statement_line.new.out) _ c.loop-statement.at c.in_ok-at.at more (omega arith) c.statement-item.is (c.in_ok-at.ensures version)
    (c.loop-statement.invariant version more)

pub returns : goal.returns
returns g c = λ version more.
    body_done (known_of version c.args.mems.now c.args.reducers.now) (names_of c.args.functions.now) c.args.registers.now c.args.body.now c.loop-statement.statement-index
    (string_bytes c.loop-statement.out) _ c.loop-statement.at more (omega arith) (c.loop-statement.invariant version more)
