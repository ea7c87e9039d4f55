-- What control histories say of the children left of a block, and of its join.
use Rattle.std.proofs.Common.{◌≡◌, ◌≢◌, ◌⊎◌, inl, inr, ℕ, zero, suc, pred, ◌+◌, ◌<◌, ◌≤◌, true, false, [], ◌∷◌, Some, refl, sym, ap, ◌∙◌, subst, arith}
use Rattle.model_strands.specs.History.{split, same, joined, waits, call, resumed, ended, ended_joined, finished, History}
use Rattle.model_strands.specs.Strands.{reserved, running, status, unused, Running}
use Rattle.model_strands.specs.Blocks.{Stack, root, spawned, called, block, stack, enclosing, Outstanding}
use Rattle.model_strands.specs.Legal.{Legal, start, then}
use Rattle.law_strands.specs.Counts.{children_left, one_less}
use Rattle.law_strands.proofs.Updates.{updated_off, updated_case}
use Rattle.law_strands.proofs.Range.{ranges, numbered}
use Rattle.law_strands.proofs.Holders.{holders}
use Rattle.law_strands.proofs.Calm.{joined_reserved}
use Rattle.law_strands.proofs.Counts.{count_law, child_outstanding}
use Rattle.law_strands.proofs.Decisions.{outstanding_or_not, other_child}

-- the join of a running strand's block is another strand
pub join-apart : (history : History) → Legal history → (strand join : ℕ) → Running history strand → enclosing (stack history strand) ≡ Some join →
    strand ≢ join
join-apart history legal strand join run at e =
    let awaits : status history join ≡ reserved = joined_reserved history strand join (holders legal) run at in
    let clash : running ≡ reserved = sym run ∙ ap (status history) e ∙ awaits in
    cc

one_less-zero : (position : Stack) (count : ℕ → ℕ) (any : ℕ) → count any ≡ 0 → one_less position count any ≡ 0
one_less-zero root count any e = e
one_less-zero (spawned number join) count any e = updated_case (λ x. x ≡ 0) count join (pred (count join)) any (λ is. let zero_there : count join ≡ 0 = ap count (sym is) ∙ e in ap pred zero_there) (λ ne. e)
one_less-zero (called number below) count any e = e
one_less-zero (block join below) count any e = e

-- a number that no strand has is the join of no block with children
pub none-left-beyond : {history : History} → Legal history → (any : ℕ) → unused history ≤ any → children_left history any ≡ 0
none-left-beyond start any le = refl
none-left-beyond (then {history = history} {event = split strand child next join first} legal allowed) any le =
    let known = numbered history strand child next join first (ranges legal) allowed in
    let other : any ≢ join = omega (arith, known.join_known) in
    updated_off (children_left history) join (suc (children_left history join)) any other ∙ none-left-beyond legal any (omega (arith, known.grows))
none-left-beyond (then {event = same strand} legal allowed) any le = none-left-beyond legal any le
none-left-beyond (then {event = joined strand join} legal allowed) any le = none-left-beyond legal any le
none-left-beyond (then {event = waits strand} legal allowed) any le = none-left-beyond legal any le
none-left-beyond (then {event = call strand} legal allowed) any le = none-left-beyond legal any le
none-left-beyond (then {event = resumed strand} legal allowed) any le = none-left-beyond legal any le
none-left-beyond (then {event = finished strand} legal allowed) any le = none-left-beyond legal any le
none-left-beyond (then {history = history} {event = ended strand} legal allowed) any le = one_less-zero (stack history strand) (children_left history) any (none-left-beyond legal any le)
none-left-beyond (then {history = history} {event = ended_joined strand join} legal allowed) any le = one_less-zero (stack history strand) (children_left history) any (none-left-beyond legal any le)

one_less-below : (position : Stack) (count : ℕ → ℕ) (bound any : ℕ) → ((other : ℕ) → count other < bound) → one_less position count any < bound
one_less-below root count bound any below = below any
one_less-below (spawned number join) count bound any below = updated_case (λ x. x < bound) count join (pred (count join)) any (λ is. pred-below (count join) bound (below join)) (λ ne. below any)
  where
    pred-below : (x m : ℕ) → x < m → pred x < m
    pred-below zero m lt = lt
    pred-below (suc x) m lt = omega arith
one_less-below (called number below) count bound any few = few any
one_less-below (block join below) count bound any few = few any

-- there are fewer children left than strands
pub few-left : (history : History) (any : ℕ) → children_left history any < unused history
few-left [] any = omega arith
few-left (split strand child next join true ∷ history) any =
    updated_case (λ x. x < 3 + unused history) (children_left history) join (suc (children_left history join)) any (λ e. omega (arith, few-left history join)) (λ ne. omega (arith, few-left history any))
few-left (split strand child next join false ∷ history) any =
    updated_case (λ x. x < 2 + unused history) (children_left history) join (suc (children_left history join)) any (λ e. omega (arith, few-left history join)) (λ ne. omega (arith, few-left history any))
few-left (same strand ∷ history) any = few-left history any
few-left (joined strand join ∷ history) any = few-left history any
few-left (waits strand ∷ history) any = few-left history any
few-left (call strand ∷ history) any = few-left history any
few-left (resumed strand ∷ history) any = few-left history any
few-left (finished strand ∷ history) any = few-left history any
few-left (ended strand ∷ history) any = one_less-below (stack history strand) (children_left history) (unused history) any (few-left history)
few-left (ended_joined strand join ∷ history) any = one_less-below (stack history strand) (children_left history) (unused history) any (few-left history)

-- a block with children left has one that is outstanding
pub outstanding-of : (history : History) → Legal history → (join : ℕ) → children_left history join ≢ 0 → (m : ℕ) × Outstanding history m join
outstanding-of history legal join some = go (outstanding_or_not history 0 join)
  where
    more : (Outstanding history 0 join → ⊥) → ((m : ℕ) × ((m ≢ 0) × Outstanding history m join)) ⊎ ((m : ℕ) → Outstanding history m join → m ≡ 0) → (m : ℕ) × Outstanding history m join
    more not_first (inl (m, t)) = (m, t.1)
    more not_first (inr all) = absurd (some (((count_law history legal).0 join).1 (λ m o. not_first (subst (λ x. Outstanding history x join) (all m o) o))))

    go : Outstanding history 0 join ⊎ (Outstanding history 0 join → ⊥) → (m : ℕ) × Outstanding history m join
    go (inl o) = (0, o)
    go (inr none) = more none (other_child history (ranges legal) 0 join)

-- the strand's function is one of the children left of its block
pub child-left : (history : History) → Legal history → (strand number join : ℕ) → Running history strand →
    stack history strand ≡ spawned number join → children_left history join ≢ 0
child-left history legal strand number join run at none = ((count_law history legal).0 join).0 none number (child_outstanding history legal strand number join run at)
