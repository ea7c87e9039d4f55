use Rattle.trace_text.specs.Printing.{declarations, known_of}
use Rattle.program_text.proofs.Printed.{declared_printed}
use Rattle.program_text.proofs.print.put_declared.Goals as goal

pub returns : goal.returns
returns g c = λ version.
    let known = known_of version c.args.mems.now c.args.reducers.now in
    declared_printed known (declarations c.args.mems.now c.args.reducers.now) _ _ _ (c.in_ok-next.ensures known)
