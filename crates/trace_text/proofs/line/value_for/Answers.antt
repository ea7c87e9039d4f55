use Rattle.trace_text.proofs.Requests.{value_taken}
use Rattle.trace_text.proofs.line.value_for.Goals as goal

pub returns-in-Write : goal.returns-in-Write
returns-in-Write c = λ known.
    value_taken known c.args.kind c.args.words.now c.value.new.words c.value.result c.in-Write.is (c.value.ensures known)
