use Rattle.std.proofs.Common.{◌≡◌, ◌+◌, ◌∷◌, ◌<◌, ◌∙◌, ℕ, true, refl, sym, subst, length, arith}
use Rattle.model_strands.specs.History.{split}
use Rattle.order_list.specs.Order.{insert_behind}
use Rattle.sp_labels.specs.Packing.{all_unpacked}
use Rattle.sp_labels.specs.Roster.{Follows}
use Rattle.sp_labels.proofs.Causes.{no-room}
use Rattle.sp_labels.proofs.Puts.{standing-put}
use Rattle.sp_labels.proofs.Queries.{running-known}
use Rattle.sp_labels.proofs.Placed.{order-grows}
use Rattle.sp_labels.proofs.Splits.{follows-first}
use Rattle.sp_labels.proofs.roster.Strands.spawn_first.Goals as goal

pub insert_three-child-requires-clause-known : goal.insert_three-child-requires-clause-known
insert_three-child-requires-clause-known g c =
    let (history, f) = c.self.invariant.0 in
    omega (arith, f.english.len, (running-known _ history f c.args.strand (c.requires.running history (subst (λ r. Follows r history) c.self.view_is f))).0)

pub insert_three_swapped-requires-clause-known : goal.insert_three_swapped-requires-clause-known
insert_three_swapped-requires-clause-known g c =
    let (history, f) = c.self.invariant.0 in
    omega (arith, f.hebrew.len, (running-known _ history f c.args.strand (c.requires.running history (subst (λ r. Follows r history) c.self.view_is f))).0)

pub overflow_add-next : goal.overflow_add-next
overflow_add-next g c = omega (arith, c.insert_three-child.ensures.few)

pub overflow_add-join : goal.overflow_add-join
overflow_add-join g c = omega (arith, c.insert_three-child.ensures.few)

pub record_of-scope-requires : goal.record_of-scope-requires
record_of-scope-requires g c =
    let (history, f) = c.self.invariant.0 in
    (running-known _ history f c.args.strand (c.requires.running history (subst (λ r. Follows r history) c.self.view_is f))).0

pub set_standing-requires : goal.set_standing-requires
set_standing-requires g c =
    let (history, f) = c.self.invariant.0 in
    (running-known _ history f c.args.strand (c.requires.running history (subst (λ r. Follows r history) c.self.view_is f))).0

pub returns-clause-spawned : goal.returns-clause-spawned
returns-clause-spawned g c history now =
    let f = subst (λ r. Follows r history) (sym c.self.view_is) now in
    let strand : ℕ = c.args.strand in
    let child : ℕ = c.insert_three-child.result in
    let count : ℕ = length (all_unpacked c.self.inside.records.items) in
    let english = c.self.inside.english.items in
    let hebrew = c.self.inside.hebrew.items in
    let run = c.requires.running history now in
    let lt : strand < count = (running-known _ history f c.args.strand run).0 in
    let child_is : child ≡ count = c.insert_three-child.ensures.item ∙ f.english.len in
    let next_is : child + 1 ≡ count + 1 = omega (arith, child_is) in
    let join_is : child + 2 ≡ count + 2 = omega (arith, child_is) in
    let english_1 = order-grows english _ (insert_behind strand child english) count strand child child f.english lt child_is c.insert_three-child.ensures.item refl in
    let english_2 = order-grows _ _ (insert_behind child (child + 1) (insert_behind strand child english)) (count + 1) child (child + 1) (child + 1) english_1 (omega (arith, child_is)) next_is (next_is ∙ sym english_1.len) refl in
    let english_3 = order-grows _ _ _ (count + 1 + 1) (child + 1) (child + 2) (child + 2) english_2 (omega (arith, child_is)) (omega (arith, child_is)) (omega (arith, child_is, english_2.len)) c.insert_three-child.ensures.items in
    let swapped_is : c.insert_three_swapped.result ≡ child = c.insert_three_swapped.ensures.item ∙ f.hebrew.len ∙ sym child_is in
    let larger = rw swapped_is at c.insert_three_swapped.ensures.items in
    let hebrew_1 = order-grows hebrew _ (insert_behind strand child hebrew) count strand child child f.hebrew lt child_is (child_is ∙ sym f.hebrew.len) refl in
    let hebrew_2 = order-grows _ _ (insert_behind strand (child + 1) (insert_behind strand child hebrew)) (count + 1) strand (child + 1) (child + 1) hebrew_1 (omega (arith, lt)) next_is (next_is ∙ sym hebrew_1.len) refl in
    let hebrew_3 = order-grows _ _ _ (count + 1 + 1) child (child + 2) (child + 2) hebrew_2 (omega (arith, child_is)) (omega (arith, child_is)) (omega (arith, child_is, hebrew_2.len)) larger in
    let all : count + 1 + 1 + 1 ≡ count + 3 = omega arith in
    follows-first _ history strand child (child + 1) (child + 2) _ _ _ _ _ _ _ f run (c.requires.synced history now) child_is next_is join_is c.record_of-scope.ensures (standing-put _ _ _ _ _ c.record_of-scope.ensures c.set_standing.ensures.put)
    (rw c.running.ensures at c.push.ensures.items) (rw c.running-2.ensures at c.push-2.ensures.items) c.push-3.ensures.items (rw all at english_3) (rw all at hebrew_3)

pub invariant_of-self : goal.invariant_of-self
invariant_of-self g c =
    let (history, f) = c.self.invariant.0 in
    ((split c.args.strand c.insert_three-child.result (c.insert_three-child.result + 1) (c.insert_three-child.result + 2) true ∷ history, returns-clause-spawned g c history (subst (λ r. Follows r history) c.self.view_is f)), no-room)
