use Rattle.std.proofs.Common.{rules, arith, refl, sym, ◌∙◌}
use Rattle.fault_lists.proofs.Adding.{found_none, found_some, adds_whole, adds_unread, adds_passed, adds_full, adds_last, adds_told}
use Rattle.fault_lists.proofs.list.+list_from.Goals as goal

pub returns-in-None : goal.returns-in-None
returns-in-None t c = adds_whole _ _ _ _ _ (found_none _ _ _ c.in_ok-found.ensures c.in-None.is) refl

pub returns-then-looks-eq0 : goal.returns-then-looks-eq0
returns-then-looks-eq0 t c =
    adds_unread _ _ _ _ _ c.in-Some.fault c.if-looks-eq0.true (found_some _ _ _ _ c.in_ok-found.ensures c.in-Some.is) refl

pub returns-then-is_following : goal.returns-then-is_following
returns-then-is_following t c =
    adds_passed _ _ _ _ _ _ _ _ c.in-Some.fault (found_some _ _ _ _ c.in_ok-found.ensures c.in-Some.is)
    (sym c.in_ok-is_following-in-Some.ensures ∙ c.if-is_following.true) (omega arith) c.in_ok-leave_out-in-Some.ensures.text c.in_ok-leave_out-in-Some.ensures.lost
    c.in_ok-is_more-in-Some.ensures

pub returns-then-left-eq0 : goal.returns-then-left-eq0
returns-then-left-eq0 t c =
    adds_full _ _ _ _ _ c.in-Some.fault (found_some _ _ _ _ c.in_ok-found.ensures c.in-Some.is)
    (sym c.in_ok-is_following-in-Some.ensures ∙ c.if-is_following.false) (omega arith) c.if-left-eq0.true refl

pub returns-then-is_last : goal.returns-then-is_last
returns-then-is_last t c =
    adds_last _ _ _ _ _ c.in-Some.fault (found_some _ _ _ _ c.in_ok-found.ensures c.in-Some.is)
    (sym c.in_ok-is_following-in-Some.ensures ∙ c.if-is_following.false) (omega arith) (omega arith)
    (sym c.in_ok-is_last-in-Some.ensures ∙ c.if-is_last.true) (search rules)

pub returns-in_ok-is_more-in-Some-2 : goal.returns-in_ok-is_more-in-Some-2
returns-in_ok-is_more-in-Some-2 t c =
    adds_told _ _ _ _ _ _ _ _ _ c.in-Some.fault (found_some _ _ _ _ c.in_ok-found.ensures c.in-Some.is)
    (sym c.in_ok-is_following-in-Some.ensures ∙ c.if-is_following.false) (omega arith) (omega arith)
    (sym c.in_ok-is_last-in-Some.ensures ∙ c.if-is_last.false) (search rules) c.in_ok-leave_out-in-Some-2.ensures.text c.in_ok-leave_out-in-Some-2.ensures.lost
    c.in_ok-is_more-in-Some-2.ensures
