use Rattle.std.proofs.Common.{rules, ◌≡◌, ◌∙◌, ap, min, length, take}
use Rattle.race_explanations.specs.Scenes.{setting_of}
use Rattle.race_explanations.specs.Groups.{head_text, members_text, behind_text}
use Rattle.text_buffers.proofs.Builders.{these, three_adds}
use Rattle.race_explanations.proofs.Telling.{first_of_all}
use Rattle.race_explanations.proofs.group.push_many.Goals as goal

pub returns : goal.returns
returns c =
    let setting = setting_of c.args.scene.now in
    let front : c.split_at.result.0.now ≡ take (min (length c.args.places.now) c.args.most) c.args.places.now = search rules in
    three_adds _ _ _ _ _ _ _
    (these _ _ _ _ c.push_head.ensures (ap (head_text setting c.args.line (length c.args.places.now)) (c.as_slice.ensures.value ∙ c.in-Ok.ensures)))
    (these _ _ _ (members_text setting c.args.cases.now (take c.args.most c.args.places.now)) c.push_members.ensures
    (ap (members_text setting c.args.cases.now) (front ∙ first_of_all c.args.places.now c.args.most)))
    (these _ _ _ (behind_text setting.origin c.args.most (length c.args.places.now)) c.push_more_pairs.ensures (search rules))
