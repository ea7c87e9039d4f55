use Rattle.std.proofs.Common.{◌≡◌, ◌++◌, ℕ, List, drop}
use Rattle.command_streams.specs.Watched.{held, has_failed}
use Rattle.command_streams.specs.ElisionText.{memory_text}
use Rattle.command_streams.specs.Tellings.{telling, TellsMore}
use Rattle.tool_commands.proofs.elide.tell_memory.Given as goal

-- some lines are told, and with those of the memories that are left they are all lines
abbrev pub invariant-loop-mem : goal.invariant-loop-mem
invariant-loop-mem g l =
    (told : List ℕ) × TellsMore (telling (g.W.Write.contents (held l.initial.output)) (has_failed l.initial.output) l.initial.lines.text)
    (telling (g.W.Write.contents (held l.output)) (has_failed l.output) l.lines.text) told
    × (told ++ memory_text (drop l.mem-index l.mems) l.rest ≡ memory_text l.mems l.values)
