use Rattle.std.proofs.Common.{rules}
use Rattle.branch_names.proofs.branches.Branches.reserve_event.Goals as goal

pub invariant_of-self-then-not-self : goal.invariant_of-self-then-not-self
invariant_of-self-then-not-self g c = search rules

pub returns-in_ok-reserve-clause-ok : goal.returns-in_ok-reserve-clause-ok
returns-in_ok-reserve-clause-ok g c = search rules
