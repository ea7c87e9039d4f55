use Rattle.std.proofs.Common.{rules, ◌≡◌, ◌∙◌, Bool, false, List, [], length, replicate, sym, subst}
use Rattle.locked_replay.specs.Receipts.{AreMarked}
use Rattle.locked_replay.proofs.Checked.{too_many}
use Rattle.locked_replay.proofs.Theirs.{unmarked, told_theirs, told_others}
use Rattle.locked_replay.proofs.logs.are_theirs.Goals as goal

pub returns-in_default : goal.returns-in_default
returns-in_default g c = told_others c.args.logs.now c.args.entries.now.items (λ same. too_many c.len-length.ensures c.len-length.type_inv c.in_default.ensures same)

pub returns-then-count-length : goal.returns-then-count-length
returns-then-count-length g c = told_others c.args.logs.now c.args.entries.now.items (λ same. c.if-count-length.true (c.in-Some.ensures ∙ same ∙ sym c.len-length.ensures))

pub returns : goal.returns
returns g c =
    let entries = c.args.entries.now.items in
    let none : c.as_mut_slice.result.now ≡ replicate (length entries) false = search rules in
    let told = c.mark_logs.ensures (subst (λ (marks : List Bool). AreMarked marks entries []) (sym none) (unmarked entries)) in
    told_theirs c.args.logs.now c.mark_logs.result _ entries told (sym c.in-Some.ensures ∙ c.if-count-length.false ∙ c.len-length.ensures)
