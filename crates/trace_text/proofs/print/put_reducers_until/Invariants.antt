use Rattle.std.proofs.Common.{◌≡◌, ◌++◌, List, length}
use Rattle.std.specs.Prelude.{string_bytes}
use Rattle.text_words.specs.declared.value.Reducer.{Reducer}
use Rattle.text_words.specs.Values.{Known}
use Rattle.trace_text.specs.Printing.{Entry, text_from, TakesReducers}
use Rattle.trace_text.proofs.print.put_reducers_until.Given as goal

-- what is left to print stays the same
abbrev pub invariant-loop-reducer : goal.invariant-loop-reducer
invariant-loop-reducer g l = (known : Known) (merged : List Reducer → List Entry) → TakesReducers l.bound merged
    → string_bytes l.out ++ text_from known l.at (merged l.rest) ≡ string_bytes l.fn.out ++ text_from known l.from (merged l.reducers)

abbrev pub decreases-loop-reducer : goal.decreases-loop-reducer
decreases-loop-reducer g l = length l.rest
