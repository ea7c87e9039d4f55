use Rattle.std.proofs.Common.{arith}
use Rattle.std.specs.Prelude.{string_bytes}
use Rattle.trace_text.specs.Printing.{known_of}
use Rattle.program_text.specs.Printing.{names_of}
use Rattle.program_text.proofs.Printed.{functions_step, functions_done}
use Rattle.program_text.proofs.print.put_functions.Goals as goal

pub loop-function-preserved : goal.loop-function-preserved
loop-function-preserved g c = λ version more.
    functions_step (known_of version c.args.mems.now c.args.reducers.now) (names_of c.args.functions.now) c.args.functions.now c.loop-function.function-index c.function-item.result
    (string_bytes c.loop-function.out) (string_bytes c.put_function.new.out) _ c.loop-function.at c.in_ok-at.at more (omega arith) c.function-item.is (c.in_ok-at.ensures version)
    (c.loop-function.invariant version more)

pub returns : goal.returns
returns g c = λ version more.
    functions_done (known_of version c.args.mems.now c.args.reducers.now) (names_of c.args.functions.now) c.args.functions.now c.loop-function.function-index
    (string_bytes c.loop-function.out) _ c.loop-function.at more (omega arith) (c.loop-function.invariant version more)
