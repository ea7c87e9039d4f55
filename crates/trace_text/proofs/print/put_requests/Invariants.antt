use Rattle.std.proofs.Common.{◌≡◌, ◌++◌, map}
use Rattle.std.specs.Prelude.{string_bytes}
use Rattle.text_words.specs.declared.value.Version.{Version}
use Rattle.packed_trace.specs.Lines.{lines_left}
use Rattle.trace_text.specs.Printing.{OfRequest, text_from, known_of}
use Rattle.trace_text.proofs.print.put_requests.Given as goal

-- what is left to print stays the same
abbrev pub invariant-loop-line : goal.invariant-loop-line
invariant-loop-line g l = (version : Version)
    → string_bytes l.out ++ text_from (known_of version l.mems l.reducers) l.at (map OfRequest (lines_left l.line-iterator))
    ≡ string_bytes l.fn.out ++ text_from (known_of version l.mems l.reducers) l.from (map OfRequest l.lines)
