use Rattle.std.proofs.Common.{◌≡◌, ◌++◌, take, map, flat_map}
use Rattle.std.specs.String.{string_bytes}
use Rattle.tool_commands.specs.Explanations.{recorded_line}
use Rattle.tool_commands.proofs.explain_trace.push_recorded.Given as goal

-- those so far are told
abbrev pub invariant-loop-run : goal.invariant-loop-run
invariant-loop-run l =
    l.told.items ≡ l.initial.told.items ++ flat_map recorded_line (map string_bytes (take l.run-index l.runs))
