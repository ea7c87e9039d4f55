use Rattle.std.proofs.Common.{◌≡◌, take, map}
use Rattle.std.specs.String.{string_bytes}
use Rattle.tool_commands.specs.Together.{with_runs}
use Rattle.tool_commands.proofs.explain_traces.keep_runs.Given as goal

-- those so far are kept
abbrev pub invariant-loop-run : goal.invariant-loop-run
invariant-loop-run l =
    map string_bytes l.runs.items ≡ with_runs (map string_bytes l.initial.runs.items) (map string_bytes (take l.run-index l.run-items))
