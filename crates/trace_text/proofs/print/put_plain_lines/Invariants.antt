use Rattle.std.proofs.Common.{◌≡◌, ◌++◌}
use Rattle.std.specs.Prelude.{string_bytes}
use Rattle.text_words.specs.declared.value.Version.{Version}
use Rattle.packed_trace.specs.Lines.{lines_left}
use Rattle.trace_text.specs.Printing.{requests_text, known_of}
use Rattle.trace_text.proofs.print.put_plain_lines.Given as goal

-- what is left to print stays the same
abbrev pub invariant-loop-line : goal.invariant-loop-line
invariant-loop-line g l = (version : Version)
    → string_bytes l.out ++ requests_text (known_of version l.mems l.reducers) (lines_left l.line-iterator)
    ≡ string_bytes l.fn.out ++ requests_text (known_of version l.mems l.reducers) (lines_left l.lines)
