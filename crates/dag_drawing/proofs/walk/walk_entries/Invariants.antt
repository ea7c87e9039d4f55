use Rattle.std.proofs.Common.{reverse, take}
use Rattle.model_histories.specs.Entries.{control_part}
use Rattle.dag_drawing.specs.Walks.{IsWalk}
use Rattle.dag_drawing.proofs.walk.walk_entries.Given as goal

-- what is known of the entries so far
abbrev pub invariant-loop-before : goal.invariant-loop-before
invariant-loop-before l = IsWalk l.walk.begun.items l.walk.blocks.items l.walk.edges.items (control_part (reverse (take l.before l.entries)))
