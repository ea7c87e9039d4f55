use Rattle.std.proofs.Common.{false, ap}
use Rattle.race_explanations.specs.Scenes.{setting_of}
use Rattle.race_explanations.specs.Groups.{alone_text, text_at_line}
use Rattle.text_buffers.proofs.Builders.{these}
use Rattle.race_explanations.proofs.group.push_group.Goals as goal

pub returns-in-Some : goal.returns-in-Some
returns-in-Some c =
    rw c.in-Some.is (these _ _ _ _ c.push_at_line.ensures
    (ap (text_at_line (setting_of c.args.scene.now) c.args.most c.args.cases.now c.in-Some.line) c.as_slice.ensures.value))

pub returns-in-None : goal.returns-in-None
returns-in-None c =
    rw c.in-None.is (these _ _ _ _ c.push_alone.ensures (ap (alone_text (setting_of c.args.scene.now) c.args.cases.now false) c.as_slice-in-None.ensures.value))
