use Rattle.std.proofs.Common.{◌≡◌, ◌++◌, ℕ, List, drop}
use Rattle.command_streams.specs.Watched.{held, has_failed}
use Rattle.command_streams.specs.ElisionText.{cell_lines}
use Rattle.command_streams.specs.Tellings.{telling, TellsMore}
use Rattle.tool_commands.proofs.elide.tell_cells.Given as goal

-- some lines are told, and with those of the cells that are left they are all lines
abbrev pub invariant-loop-index : goal.invariant-loop-index
invariant-loop-index g l =
    (told : List ℕ) × TellsMore (telling (g.W.Write.contents (held l.initial.output)) (has_failed l.initial.output) l.initial.lines.text)
    (telling (g.W.Write.contents (held l.output)) (has_failed l.output) l.lines.text) told
    × (told ++ cell_lines l.mem l.index (drop l.index l.values) ≡ cell_lines l.mem 0 l.values)
