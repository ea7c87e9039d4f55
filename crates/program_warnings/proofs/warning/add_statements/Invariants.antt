use Rattle.std.proofs.Common.{◌≡◌, ◌++◌, take, flat_map}
use Rattle.std.specs.Ordering.{nat_cmp}
use Rattle.std.specs.BTreeMap.{get}
use Rattle.program_warnings.specs.Reach.{is_marked}
use Rattle.program_warnings.specs.Warnings.{statement_warnings}
use Rattle.program_warnings.proofs.warning.add_statements.Given as goal

-- those of the statements so far were added
abbrev pub invariant-loop-statement : goal.invariant-loop-statement
invariant-loop-statement l =
    l.warnings.items ≡ l.initial.warnings.items ++ flat_map (statement_warnings (is_marked l.put) (get nat_cmp l.wraps) l.function) (take l.statement-index l.body)
