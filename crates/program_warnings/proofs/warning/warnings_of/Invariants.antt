use Rattle.std.proofs.Common.{◌≡◌, ◌++◌, drop}
use Rattle.std.specs.Ordering.{nat_cmp}
use Rattle.std.specs.BTreeMap.{get}
use Rattle.program_warnings.specs.Declarations.{stored_at}
use Rattle.program_warnings.specs.Reach.{is_marked}
use Rattle.program_warnings.specs.Warnings.{warnings_from}
use Rattle.program_warnings.proofs.warning.warnings_of.Given as goal

-- those so far and those of the functions that are left are all
abbrev pub invariant-loop-number : goal.invariant-loop-number
invariant-loop-number l =
    l.warnings.items ++ warnings_from (stored_at l.names) (is_marked l.reached) (is_marked l.put) (get nat_cmp l.wraps) l.number
    (drop l.number l.functions)
    ≡ warnings_from (stored_at l.names) (is_marked l.reached) (is_marked l.put) (get nat_cmp l.wraps) 0 l.functions
