use Rattle.trace_text.specs.Printing.{OfRequest, known_of}
use Rattle.std.proofs.lemmas.Result.{IfOk-weaker}
use Rattle.trace_text.proofs.Printed.{entry_steps}
use Rattle.trace_text.proofs.print.put_request_line.Goals as goal

pub returns : goal.returns
returns g c version =
    IfOk-weaker c.put_end.result _ _
    (λ next end. entry_steps (known_of version c.args.mems.now c.args.reducers.now) (OfRequest c.args.line.now) c.args.at c.from.result next _ _ _ _ c.from.ensures end.0 c.in_ok-put_feeds.ensures (c.in_ok-put_request.ensures version) end.1) c.put_end.ensures
