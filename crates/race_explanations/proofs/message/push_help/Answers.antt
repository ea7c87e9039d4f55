use Rattle.std.proofs.Common.{sym, ◌∙◌}
use Rattle.text_buffers.proofs.Builders.{three_adds}
use Rattle.race_explanations.specs.Scenes.{setting_of}
use Rattle.race_explanations.specs.Messages.{help_of}
use Rattle.race_explanations.proofs.Helping.{note_there, note_none}
use Rattle.race_explanations.proofs.message.push_help.Goals as goal

pub returns-then-has_help : goal.returns-then-has_help
returns-then-has_help c =
    let setting = setting_of c.args.scene.now in
    let pair = c.args.pair.now in
    note_there setting (help_of pair.lines.reason setting pair c.args.encounter.now c.args.is_sure) _ _
    (sym (c.has_help.ensures setting c.args.is_sure) ∙ c.if-has_help.true)
    (three_adds _ _ _ _ _ _ _ c.begin_help.ensures c.push_help_words.ensures c.push_words.ensures)

pub returns-else-has_help : goal.returns-else-has_help
returns-else-has_help c =
    let setting = setting_of c.args.scene.now in
    let pair = c.args.pair.now in
    note_none setting (help_of pair.lines.reason setting pair c.args.encounter.now c.args.is_sure) _
    (sym (c.has_help.ensures setting c.args.is_sure) ∙ c.if-has_help.false)
