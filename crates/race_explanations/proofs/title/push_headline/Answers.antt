use Rattle.std.proofs.Common.{rules}
use Rattle.race_explanations.specs.Scenes.{setting_of}
use Rattle.race_explanations.specs.Titles.{names_text}
use Rattle.text_buffers.proofs.Builders.{these, four_adds}
use Rattle.race_explanations.proofs.title.push_headline.Goals as goal

pub returns : goal.returns
returns c =
    four_adds _ _ _ _ _ _ _ _ _ c.push_kind.ensures
    (these _ _ _ (names_text (setting_of c.args.scene.now) c.args.pair.now.lines.reason c.args.places.now) c.push_names.ensures (search rules))
    c.push_words.ensures c.push_count.ensures
