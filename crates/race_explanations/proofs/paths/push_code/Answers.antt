use Rattle.std.proofs.Common.{rules}
use Rattle.text_buffers.proofs.Builders.{these, four_adds}
use Rattle.race_explanations.proofs.paths.push_code.Goals as goal

pub returns : goal.returns
returns c =
    these _ _ _ _ (four_adds _ _ _ _ _ _ _ _ _ c.push_gutter.ensures c.push_words.ensures c.push_words-2.ensures c.push_words-3.ensures) (search rules)
