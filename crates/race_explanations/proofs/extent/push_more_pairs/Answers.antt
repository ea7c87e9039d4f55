use Rattle.std.proofs.Common.{rules, ltb}
use Rattle.text_buffers.proofs.Builders.{then_adds, four_adds}
use Rattle.race_explanations.proofs.extent.push_more_pairs.Goals as goal

pub returns : goal.returns
returns c =
    then_adds _ _ (ltb c.args.most c.args.count) _ _ (search rules)
    (four_adds _ _ _ _ _ _ _ _ _ c.push_words.ensures c.push_count.ensures c.push_words-2.ensures c.push_words-3.ensures)
