use Rattle.std.proofs.Common.{ap}
use Rattle.race_explanations.specs.Scenes.{setting_of}
use Rattle.race_explanations.specs.Titles.{title_text}
use Rattle.text_buffers.proofs.Builders.{these, four_adds}
use Rattle.race_explanations.proofs.FindingTexts.{grouped}
use Rattle.race_explanations.proofs.message.push_member.Goals as goal

pub returns : goal.returns
returns c =
    let setting = setting_of c.args.scene.now in
    let pair = c.args.case.now.race.now.pair in
    these _ _ _ _
    (four_adds _ _ _ _ _ _ _ _ _ (these _ _ _ _ c.push_title.ensures (ap (title_text setting pair) c.as_slice.ensures.value)) c.push_body.ensures
    c.push_own_help.ensures c.push_words.ensures)
    (grouped setting pair c.args.case.now.race.now.places.items c.args.case.now.encounter _)
