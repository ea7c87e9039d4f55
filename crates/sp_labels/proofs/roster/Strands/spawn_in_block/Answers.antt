use Rattle.std.proofs.Common.{◌≡◌, ◌+◌, ◌∷◌, ◌<◌, ◌∙◌, ℕ, false, sym, ap, subst, length, arith, refl}
use Rattle.model_strands.specs.History.{split}
use Rattle.model_strands.specs.Blocks.{enclosing}
use Rattle.model_strands.specs.Strands.{unused}
use Rattle.law_strands.specs.Counts.{children_left}
use Rattle.order_list.specs.Order.{insert_behind}
use Rattle.sp_labels.specs.declared.record.Standing.TheVariants.{Over}
use Rattle.sp_labels.specs.declared.record.Record.{Record}
use Rattle.sp_labels.specs.Packing.{all_unpacked}
use Rattle.sp_labels.specs.Roster.{Follows, record_at, IsPut}
use Rattle.sp_labels.proofs.Causes.{no-room}
use Rattle.sp_labels.proofs.Queries.{running-known}
use Rattle.sp_labels.proofs.Placed.{order-grows}
use Rattle.sp_labels.proofs.Splits.{follows-later}
use Rattle.sp_labels.proofs.Acting.{join-known}
use Rattle.sp_labels.proofs.Counts.{join-apart, few-left}
use Rattle.sp_labels.proofs.roster.Strands.spawn_in_block.Goals as goal

pub insert_two-child-requires-clause-known : goal.insert_two-child-requires-clause-known
insert_two-child-requires-clause-known g c =
    let (history, f) = c.self.invariant.0 in
    omega (arith, f.english.len, (running-known _ history f c.args.strand (c.requires.running history (subst (λ r. Follows r history) c.self.view_is f))).0)

pub insert_two_swapped-requires-clause-known : goal.insert_two_swapped-requires-clause-known
insert_two_swapped-requires-clause-known g c =
    let (history, f) = c.self.invariant.0 in
    omega (arith, f.hebrew.len, (running-known _ history f c.args.strand (c.requires.running history (subst (λ r. Follows r history) c.self.view_is f))).0)

pub overflow_add-next : goal.overflow_add-next
overflow_add-next g c = omega (arith, c.insert_two-child.ensures.few)

pub set_standing-requires : goal.set_standing-requires
set_standing-requires g c =
    let (history, f) = c.self.invariant.0 in
    (running-known _ history f c.args.strand (c.requires.running history (subst (λ r. Follows r history) c.self.view_is f))).0

pub record_of-joining-requires : goal.record_of-joining-requires
record_of-joining-requires g c =
    let (history, f) = c.self.invariant.0 in
    let now = subst (λ r. Follows r history) c.self.view_is f in
    omega (arith, c.set_standing.ensures.put.len, join-known _ history f c.args.strand c.args.join (ap enclosing (c.requires.in_block history now).1))

pub overflow_add-joining : goal.overflow_add-joining
overflow_add-joining g c =
    let (history, f) = c.self.invariant.0 in
    let now = subst (λ r. Follows r history) c.self.view_is f in
    let run = c.requires.running history now in
    let at = c.requires.in_block history now in
    let put = c.set_standing.ensures.put in
    let apart = join-apart history f.legal c.args.strand c.args.join run (ap enclosing at.1) in
    let join_lt = join-known _ history f c.args.strand c.args.join (ap enclosing at.1) in
    let its : c.record_of-joining.result.children_left ≡ children_left history c.args.join =
    ap (λ (k : Record). k.children_left) (c.record_of-joining.ensures ∙ put.others c.args.join (λ e. apart (sym e))) ∙ (f.each c.args.join join_lt).children in
    let child_is : c.insert_two-child.result ≡ unused history = c.insert_two-child.ensures.item ∙ f.english.len ∙ f.count in
    let few : children_left history c.args.join < unused history = few-left history c.args.join in
    let fits : c.insert_two-child.result < 4294967296 = c.insert_two-child.type_inv in
    omega arith

pub put-requires : goal.put-requires
put-requires g c =
    let (history, f) = c.self.invariant.0 in
    let now = subst (λ r. Follows r history) c.self.view_is f in
    omega (arith, c.set_standing.ensures.put.len, join-known _ history f c.args.strand c.args.join (ap enclosing (c.requires.in_block history now).1))

pub returns-clause-spawned : goal.returns-clause-spawned
returns-clause-spawned g c history now =
    let f = subst (λ r. Follows r history) (sym c.self.view_is) now in
    let strand : ℕ = c.args.strand in
    let child : ℕ = c.insert_two-child.result in
    let join : ℕ = c.args.join in
    let count : ℕ = length (all_unpacked c.self.inside.records.items) in
    let run = c.requires.running history now in
    let at = c.requires.in_block history now in
    let lt : strand < count = (running-known _ history f c.args.strand run).0 in
    let kept : Record = record_at (all_unpacked c.self.inside.records.items) c.args.strand in
    let put : IsPut (all_unpacked c.self.inside.records.items) c.args.strand (record kept { standing = Over }) (all_unpacked c.set_standing.new.records.items) = c.set_standing.ensures.put in
    let english = c.self.inside.english.items in
    let hebrew = c.self.inside.hebrew.items in
    let child_is : child ≡ count = c.insert_two-child.ensures.item ∙ f.english.len in
    let next_is : child + 1 ≡ count + 1 = omega (arith, child_is) in
    let english_1 = order-grows english _ (insert_behind strand child english) count strand child child f.english lt child_is c.insert_two-child.ensures.item refl in
    let english_2 = order-grows _ _ _ (count + 1) child (child + 1) (child + 1) english_1 (omega (arith, child_is)) next_is (next_is ∙ sym english_1.len) c.insert_two-child.ensures.items in
    let swapped_is : c.insert_two_swapped.result ≡ child = c.insert_two_swapped.ensures.item ∙ f.hebrew.len ∙ sym child_is in
    let larger = rw swapped_is at c.insert_two_swapped.ensures.items in
    let hebrew_1 = order-grows hebrew _ (insert_behind strand child hebrew) count strand child child f.hebrew lt child_is (child_is ∙ sym f.hebrew.len) refl in
    let hebrew_2 = order-grows _ _ _ (count + 1) strand (child + 1) (child + 1) hebrew_1 (omega (arith, lt)) next_is (next_is ∙ sym hebrew_1.len) larger in
    let all : count + 1 + 1 ≡ count + 2 = omega arith in
    follows-later _ history strand child (child + 1) join at.0 _ _ _ _ _ _ _ _ f run at.1 child_is next_is refl put c.record_of-joining.ensures c.put.ensures.put
    (rw c.running.ensures at c.push.ensures.items) (rw c.running-2.ensures at c.push-2.ensures.items) (rw all at english_2) (rw all at hebrew_2)

pub invariant_of-self : goal.invariant_of-self
invariant_of-self g c =
    let (history, f) = c.self.invariant.0 in
    ((split c.args.strand c.insert_two-child.result (c.insert_two-child.result + 1) c.args.join false ∷ history, returns-clause-spawned g c history (subst (λ r. Follows r history) c.self.view_is f)), no-room)
