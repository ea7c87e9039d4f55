use Rattle.std.proofs.Common.{ℕ, ap, ◌∙◌, get_or}
use Rattle.std.specs.Global.{Vec}
use Rattle.race_explanations.specs.FoundGroups.{found_group}
use Rattle.text_buffers.proofs.Builders.{these, none_adds, one_more}
use Rattle.race_explanations.proofs.found_told.tell_each.Goals as goal

pub loop-group-init : goal.loop-group-init
loop-group-init c = none_adds c.args.text.now

pub loop-group-preserved : goal.loop-group-preserved
loop-group-preserved c =
    one_more (λ (group : Vec ℕ). found_group c.args.most c.args.findings.now group.items) c.args.groups.now c.loop-group.group-index c.group-item.result _ _ _
    c.loop-group-test.true c.loop-group.invariant
    (these _ _ _ (found_group c.args.most c.args.findings.now (get_or c.args.groups.now c.loop-group.group-index c.group-item.result).items) c.tell_group.ensures
    (ap (found_group c.args.most c.args.findings.now) c.as_slice.ensures.value ∙
    ap (λ (group : Vec ℕ). found_group c.args.most c.args.findings.now group.items) c.group-item.is))
