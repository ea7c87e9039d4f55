use Rattle.std.proofs.Common.{◌≡◌, ◌++◌, drop, map}
use Rattle.serde_json.specs.View.{view}
use Rattle.tool_commands.specs.Memories.{cell_values}
use Rattle.tool_commands.proofs.memory.push_cells.Given as goal

-- the cells so far and those that are left are all cells
abbrev pub invariant-loop-index : goal.invariant-loop-index
invariant-loop-index l =
    map view l.cells.items ++ cell_values l.mem l.index (drop l.index l.values) ≡ map view l.initial.cells.items ++ cell_values l.mem 0 l.values
