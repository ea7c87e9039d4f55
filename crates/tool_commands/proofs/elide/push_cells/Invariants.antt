use Rattle.std.proofs.Common.{◌≡◌, ◌++◌, ℕ, List, drop}
use Rattle.command_streams.specs.ElisionText.{cell_lines}
use Rattle.text_buffers.specs.Builders.{Adds}
use Rattle.tool_commands.proofs.elide.push_cells.Given as goal

-- some lines are added, and with those of the cells that are left they are all lines
abbrev pub invariant-loop-index : goal.invariant-loop-index
invariant-loop-index l =
    (told : List ℕ) × Adds l.initial.text told l.text × (told ++ cell_lines l.mem l.index (drop l.index l.values) ≡ cell_lines l.mem 0 l.values)
