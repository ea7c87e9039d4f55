use Rattle.std.proofs.Common.{ap, get_or}
use Rattle.race_explanations.specs.Scenes.{setting_of}
use Rattle.race_explanations.specs.Groups.{group_text}
use Rattle.text_buffers.proofs.Builders.{these, none_adds, one_more}
use Rattle.race_explanations.proofs.group.push_groups.Goals as goal

pub loop-group-init : goal.loop-group-init
loop-group-init c = none_adds c.args.text.now

pub loop-group-preserved : goal.loop-group-preserved
loop-group-preserved c =
    let told = group_text (setting_of c.args.scene.now) c.args.most c.args.cases.now in
    one_more told c.args.groups.now c.loop-group.group-index c.group-item.result _ _ _
    c.loop-group-test.true c.loop-group.invariant
    (these _ _ _ (told (get_or c.args.groups.now c.loop-group.group-index c.group-item.result)) c.push_group.ensures (ap told c.group-item.is))
