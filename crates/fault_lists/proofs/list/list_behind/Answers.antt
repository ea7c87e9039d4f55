use Rattle.std.proofs.Common.{rules, ℕ, List, map, ap}
use denote.Ref.{Bor}
use Rattle.fault_lists.proofs.Adding.{list_begun}
use Rattle.fault_lists.proofs.list.list_behind.Goals as goal

pub returns : goal.returns
returns c =
    list_begun _ _ c.args.first c.args.text.now _ _ _ _ _ _ _ c.in_ok-rest.ensures.text c.in_ok-leave_out.ensures.text
    (ap (map (λ (name : Bor (List ℕ)). name.now)) c.in_ok-rest.ensures.lost) c.in_ok-leave_out.ensures.lost (search rules) c.in_ok-is_more.ensures
