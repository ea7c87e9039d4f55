use Rattle.std.proofs.lemmas.Result.{on_ok_weaker}
use Rattle.trace_text.specs.Printing.{known_of}
use Rattle.trace_text.proofs.Printed.{request_steps}
use Rattle.trace_text.proofs.print.put_request.Goals as goal

pub returns : goal.returns
returns g c = λ version.
    on_ok_weaker c.put_mark.result
    (λ marked. request_steps (known_of version c.args.mems.now c.args.reducers.now) c.args.line.now c.keyword_for.result c.from.result c.keyword_word.result.now _ _ _ _ _
    c.keyword_word.ensures c.keyword_for.ensures c.from.ensures c.in_ok-push_str.ensures.bytes c.in_ok-put_number.ensures (c.in_ok-put_operands.ensures version) marked)
    c.put_mark.ensures
