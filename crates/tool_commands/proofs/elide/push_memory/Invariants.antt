use Rattle.std.proofs.Common.{◌≡◌, ◌++◌, ℕ, List, drop}
use Rattle.command_streams.specs.ElisionText.{memory_text}
use Rattle.text_buffers.specs.Builders.{Adds}
use Rattle.tool_commands.proofs.elide.push_memory.Given as goal

-- some lines are added, and with those of the memories that are left they are all lines
abbrev pub invariant-loop-mem : goal.invariant-loop-mem
invariant-loop-mem l =
    (told : List ℕ) × Adds l.initial.text told l.text × (told ++ memory_text (drop l.mem-index l.mems) l.rest ≡ memory_text l.mems l.values)
