use Rattle.std.proofs.Common.{ap}
use Rattle.race_explanations.specs.Scenes.{setting_of}
use Rattle.race_explanations.specs.Paths.{line_words}
use Rattle.text_buffers.proofs.Builders.{these, two_adds, three_adds}
use Rattle.race_explanations.proofs.advice.push_opened.Goals as goal

pub returns-in-Some : goal.returns-in-Some
returns-in-Some c =
    rw c.in-Some.is (two_adds _ _ _ _ _ c.push_spawn.ensures
    (three_adds _ _ _ _ _ _ _
    (two_adds _ _ _ _ _ c.push_words.ensures
    (these _ _ _ _ c.push_line.ensures (ap (line_words (setting_of c.args.scene.now).origin) c.line_on-at.ensures)))
    (two_adds _ _ _ _ _ c.push_words-in-Some.ensures
    (these _ _ _ _ c.push_line-in-Some.ensures (ap (line_words (setting_of c.args.scene.now).origin) c.line_on-not_at.ensures)))
    c.push_words-in-Some-2.ensures))
