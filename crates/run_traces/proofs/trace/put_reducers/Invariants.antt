use Rattle.std.proofs.Common.{◌≡◌, ◌++◌, drop}
use Rattle.std.specs.Prelude.{string_bytes}
use Rattle.text_words.specs.Values.{Known}
use Rattle.run_traces.specs.Texts.{reducers_text}
use Rattle.run_traces.proofs.trace.put_reducers.Given as goal

-- what is left to print stays the same
abbrev pub invariant-loop-reducer : goal.invariant-loop-reducer
invariant-loop-reducer g l =
    (known : Known) → string_bytes l.out ++ reducers_text known (drop l.reducer-index l.reducers) ≡ string_bytes l.fn.out ++ reducers_text known l.reducers
