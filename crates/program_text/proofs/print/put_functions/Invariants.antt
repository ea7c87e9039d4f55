use Rattle.std.proofs.Common.{◌≡◌, ◌++◌, List, drop}
use Rattle.std.specs.Prelude.{string_bytes}
use Rattle.text_words.specs.declared.value.Version.{Version}
use Rattle.trace_text.specs.Printing.{known_of}
use Rattle.program_text.specs.Printing.{Row, rows_of_functions, names_of, text_from}
use Rattle.program_text.proofs.print.put_functions.Given as goal

-- what is left to print stays the same
abbrev pub invariant-loop-function : goal.invariant-loop-function
invariant-loop-function g l = (version : Version) (more : List Row)
    → string_bytes l.out ++ text_from l.at (rows_of_functions (known_of version l.mems l.reducers) (names_of l.functions) (drop l.function-index l.functions) ++ more)
    ≡ string_bytes l.fn.out ++ text_from l.from (rows_of_functions (known_of version l.mems l.reducers) (names_of l.functions) l.functions ++ more)
