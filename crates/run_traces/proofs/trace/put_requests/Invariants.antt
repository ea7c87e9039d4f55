use Rattle.std.proofs.Common.{◌≡◌, ◌++◌, drop}
use Rattle.std.specs.Prelude.{string_bytes}
use Rattle.text_words.specs.declared.value.Version.{Version}
use Rattle.trace_text.specs.Printing.{known_of}
use Rattle.run_traces.specs.Texts.{requests_text}
use Rattle.run_traces.proofs.trace.put_requests.Given as goal

-- what is left to print stays the same
abbrev pub invariant-loop-entry : goal.invariant-loop-entry
invariant-loop-entry g l = (version : Version)
    → string_bytes l.out ++ requests_text (known_of version l.mems l.reducers) (drop l.entry-index l.entries)
    ≡ string_bytes l.fn.out ++ requests_text (known_of version l.mems l.reducers) l.entries
