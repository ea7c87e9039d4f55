use Rattle.std.proofs.Common.{◌+◌, ◌++◌, List, drop, map, sym, ap, ◌∙◌}
use Rattle.std.specs.Prelude.{string_bytes}
use Rattle.text_words.specs.declared.value.Reducer.{Reducer}
use Rattle.trace_text.specs.Printing.{OfReducer, text_from}
use Rattle.trace_text.proofs.Printed.{drop_here}
use Rattle.trace_text.proofs.print.put_reducers.Goals as goal

pub loop-reducer-preserved : goal.loop-reducer-preserved
loop-reducer-preserved g c known requests =
    let i = c.loop-reducer.reducer-index in
    let here = drop_here c.args.reducers.now i c.reducer-item.result c.loop-reducer-test.true c.reducer-item.is in
    c.in_ok-at.ensures known (map OfReducer (drop (i + 1) c.args.reducers.now) ++ requests)
    ∙ (ap (λ (left : List Reducer). string_bytes c.loop-reducer.out ++ text_from known c.loop-reducer.at (map OfReducer left ++ requests)) (sym here)
    ∙ c.loop-reducer.invariant known requests)
