use Rattle.std.proofs.Common.{◌≡◌, ◌++◌, List, drop}
use Rattle.std.specs.Prelude.{string_bytes}
use Rattle.text_words.specs.declared.value.Version.{Version}
use Rattle.trace_text.specs.Printing.{known_of}
use Rattle.program_text.specs.Printing.{Row, body_rows, names_of, text_from}
use Rattle.program_text.proofs.print.put_body.Given as goal

-- what is left to print stays the same
abbrev pub invariant-loop-statement : goal.invariant-loop-statement
invariant-loop-statement g l = (version : Version) (more : List Row)
    → string_bytes l.out ++ text_from l.at (body_rows (known_of version l.mems l.reducers) (names_of l.functions) l.registers (drop l.statement-index l.body) ++ more)
    ≡ string_bytes l.fn.out ++ text_from l.from (body_rows (known_of version l.mems l.reducers) (names_of l.functions) l.registers l.body ++ more)
