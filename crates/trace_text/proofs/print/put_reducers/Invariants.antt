use Rattle.std.proofs.Common.{◌≡◌, ◌++◌, List, drop, map}
use Rattle.std.specs.Prelude.{string_bytes}
use Rattle.text_words.specs.Values.{Known}
use Rattle.trace_text.specs.Printing.{Entry, OfReducer, text_from}
use Rattle.trace_text.proofs.print.put_reducers.Given as goal

-- what is left to print stays the same
abbrev pub invariant-loop-reducer : goal.invariant-loop-reducer
invariant-loop-reducer g l = (known : Known) (requests : List Entry)
    → string_bytes l.out ++ text_from known l.at (map OfReducer (drop l.reducer-index l.reducers) ++ requests)
    ≡ string_bytes l.fn.out ++ text_from known l.from (map OfReducer l.reducers ++ requests)
