use Rattle.std.proofs.lemmas.Option.{IfSome_then}
use Rattle.trace_text.proofs.PlainRequests.{value_stands}
use Rattle.trace_text.proofs.plain.value_for.Goals as goal

pub returns-in-Write : goal.returns-in-Write
returns-in-Write c = λ known.
    IfSome_then c.value.result (c.value.ensures known)
    (λ r has. value_stands known c.args.kind c.args.bytes.now r.1.now r.0 c.in-Write.is has)
