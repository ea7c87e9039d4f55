use Rattle.std.proofs.Common.{rules, ◌==◌}
use Rattle.race_explanations.specs.Scenes.{setting_of}
use Rattle.race_explanations.specs.Advice.{missing_help}
use Rattle.text_buffers.proofs.Builders.{these, then_adds}
use Rattle.race_explanations.proofs.advice.push_sync_help.Goals as goal

pub returns-then-line-onward : goal.returns-then-line-onward
returns-then-line-onward c =
    then_adds _ _ (c.args.line == c.args.onward) _ (missing_help (setting_of c.args.scene.now) c.args.line c.args.onward c.args.is_sure) (search rules)
    (these _ _ _ _ c.push_words.ensures c.rounds_words.ensures)
