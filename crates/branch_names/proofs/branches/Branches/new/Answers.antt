use Rattle.std.proofs.Common.{[]}
use Rattle.std.proofs.lemmas.Bool.{false≢true}
use Rattle.branch_names.proofs.Events.{names-follow, opening}
use Rattle.branch_names.proofs.branches.Branches.new.Goals as goal

pub invariant_of-result : goal.invariant_of-result
invariant_of-result g c = (([], names-follow _ [] (rw (c.push_reserved.ensures.items, c.in_ok-names.ensures.items, c.given.ensures) opening)), (λ e. absurd (false≢true e)))

pub returns-clause-opening : goal.returns-clause-opening
returns-clause-opening g c = names-follow _ [] (rw (c.push_reserved.ensures.items, c.in_ok-names.ensures.items, c.given.ensures) opening)
