use Rattle.std.proofs.Common.{◌≡◌, false, take, map}
use Rattle.std.specs.String.{string_bytes}
use Rattle.command_streams.specs.Watched.{held, has_failed}
use Rattle.tool_commands.specs.Together.{together_of}
use Rattle.tool_commands.specs.Several.{lacks_first}
use Rattle.tool_commands.specs.Several.{style, AreTaken}
use Rattle.tool_commands.proofs.several.explain_texts.Given as goal

-- those so far are taken, the host is as it was, and none of them is a first one that can't be opened
abbrev pub invariant-loop-file : goal.invariant-loop-file
invariant-loop-file g l =
    AreTaken (style l.is_painted l.extent l.rendering) (g.H.Host.sources (held l.initial.host)).file (map string_bytes (take l.file-index l.files)) (together_of l.traces) ×
    (has_failed l.host ≡ false) × (held l.host ≡ held l.initial.host) ×
    (lacks_first (g.H.Host.lacks (held l.initial.host)) (map string_bytes (take l.file-index l.files)) → ⊥)
