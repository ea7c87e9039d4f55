use Rattle.std.proofs.Common.{◌≡◌, ◌++◌, drop, map}
use Rattle.std.specs.Prelude.{string_bytes}
use Rattle.dag_drawing.specs.Labels.{naming_of, access_line}
use Rattle.dag_drawing.proofs.labels.add_accesses.Given as goal

-- the lines so far and those that are left are the whole
abbrev pub invariant-loop-access : goal.invariant-loop-access
invariant-loop-access l =
    map string_bytes l.lines.items ++ map (access_line (naming_of l.names)) (drop l.access-index l.told) ≡
    map string_bytes l.initial.lines.items ++ map (access_line (naming_of l.names)) l.told
