use Rattle.std.proofs.Common.{◌≡◌, ◌++◌, drop, map}
use Rattle.serde_json.specs.View.{view}
use Rattle.tool_commands.specs.Memories.{memory_values}
use Rattle.tool_commands.proofs.memory.memory_value.Given as goal

-- the cells so far and those of the memories that are left are all cells
abbrev pub invariant-loop-mem : goal.invariant-loop-mem
invariant-loop-mem l = map view l.cells.items ++ memory_values (drop l.mem-index l.mems) l.rest ≡ memory_values l.mems l.values
