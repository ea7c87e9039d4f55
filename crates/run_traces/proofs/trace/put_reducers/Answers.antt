use Rattle.std.proofs.Common.{◌+◌, ◌++◌, arith, ap, ◌∙◌, sym, drop, map}
use Rattle.std.specs.Prelude.{string_bytes}
use Rattle.trace_text.specs.Printing.{OfReducer}
use Rattle.run_traces.specs.Texts.{reducers_text}
use Rattle.run_traces.proofs.Printed.{line_fed, drop_item}
use Rattle.run_traces.proofs.trace.put_reducers.Goals as goal

pub loop-reducer-preserved : goal.loop-reducer-preserved
loop-reducer-preserved g c = λ known.
    let reducers = c.args.reducers.now in
    let here = drop_item reducers c.loop-reducer.reducer-index c.reducer-item.result (omega arith) c.reducer-item.is in
    line_fed known (OfReducer c.reducer-item.result) (map OfReducer (drop (c.loop-reducer.reducer-index + 1) reducers)) _ _ _ _
    (c.in_ok-put_reducer.ensures known) c.in_ok-push_str.ensures.bytes
    (ap (λ rs. string_bytes c.loop-reducer.out ++ reducers_text known rs) (sym here) ∙ c.loop-reducer.invariant known)
