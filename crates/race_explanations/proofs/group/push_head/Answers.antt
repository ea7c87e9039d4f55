use Rattle.std.proofs.Common.{ap}
use Rattle.race_explanations.specs.Scenes.{setting_of}
use Rattle.race_explanations.specs.Groups.{first_text, sync_text}
use Rattle.text_buffers.proofs.Builders.{these, four_adds}
use Rattle.race_explanations.proofs.group.push_head.Goals as goal

pub returns : goal.returns
returns c =
    four_adds _ _ _ _ _ _ _ _ _
    (these _ _ _ _ c.push_first_line.ensures (ap (first_text (setting_of c.args.scene.now) c.args.line c.args.count) c.first_among-first.ensures))
    c.push_rounds_of.ensures
    (these _ _ _ _ c.push_sync_of.ensures (ap (λ first. sync_text (setting_of c.args.scene.now) c.args.line first c.args.courses.now) c.first_among-first.ensures))
    c.push_words.ensures
