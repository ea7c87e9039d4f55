use Rattle.trace_text.specs.Printing.{OfReducer}
use Rattle.std.proofs.lemmas.Result.{IfOk-weaker}
use Rattle.trace_text.proofs.Printed.{entry_steps}
use Rattle.trace_text.proofs.print.put_reducer_line.Goals as goal

pub returns : goal.returns
returns g c known =
    IfOk-weaker c.put_end.result _ _
    (λ next end. entry_steps known (OfReducer c.args.reducer.now) c.args.at c.from.result next _ _ _ _ c.from.ensures end.0 c.in_ok-put_feeds.ensures (c.in_ok-put_reducer.ensures known) end.1) c.put_end.ensures
