use Rattle.std.proofs.Common.{◌≡◌, ◌++◌, List, drop}
use Rattle.std.specs.Prelude.{string_bytes}
use Rattle.text_words.specs.Values.{Known}
use Rattle.trace_text.specs.Printing.{Entry, text_from, declarations}
use Rattle.trace_text.proofs.print.put_declarations.Given as goal

-- what is left to print stays the same
abbrev pub invariant-loop-mem : goal.invariant-loop-mem
invariant-loop-mem g l = (known : Known) (requests : List Entry)
    → string_bytes l.out ++ text_from known l.at (declarations (drop l.mem-index l.mems) l.rest ++ requests)
    ≡ string_bytes l.fn.out ++ text_from known 2 (declarations l.mems l.reducers ++ requests)
