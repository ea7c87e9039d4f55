use Rattle.std.proofs.Common.{rules, ltb}
use Rattle.text_buffers.proofs.Builders.{then_adds, three_adds}
use Rattle.program_warnings.proofs.message.push_more.Goals as goal

pub returns : goal.returns
returns c =
    then_adds _ _ (ltb 20 c.args.count) _ _ (search rules)
    (three_adds _ _ _ _ _ _ _ c.push_words.ensures c.push_count.ensures c.push_words-2.ensures)
