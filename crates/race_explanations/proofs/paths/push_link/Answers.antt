use Rattle.std.proofs.Common.{ap}
use Rattle.race_explanations.specs.Scenes.{setting_of}
use Rattle.race_explanations.specs.Paths.{line_words, within, statement_text}
use Rattle.text_buffers.proofs.Builders.{these, two_adds, five_adds}
use Rattle.race_explanations.proofs.paths.push_link.Goals as goal

pub returns : goal.returns
returns c =
    let is = c.line_of-line.ensures in
    two_adds _ _ _ _ _
    (five_adds _ _ _ _ _ _ _ _ _ _ _ c.push_note_sign.ensures (these _ _ _ _ c.push_words.ensures c.way_word.ensures) c.push_words-2.ensures
    (these _ _ _ _ c.push_line.ensures (ap (line_words (setting_of c.args.scene.now).origin) is))
    (these _ _ _ _ c.push_within.ensures (ap (within (setting_of c.args.scene.now).origin) is)))
    (these _ _ _ _ c.push_statement.ensures (ap (statement_text (setting_of c.args.scene.now).origin) is))
