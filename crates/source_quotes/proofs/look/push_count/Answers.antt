use Rattle.std.proofs.Common.{rules, decimal, codes, [], ◌==◌, if◌then◌else◌}
use Rattle.text_buffers.proofs.Builders.{these, four_adds}
use Rattle.source_quotes.proofs.look.push_count.Goals as goal

pub returns : goal.returns
returns c =
    four_adds _ _ _ _ _ _ _ _ _ (these _ _ _ (decimal c.args.count) c.push_number.ensures (search rules)) c.push_words.ensures c.push_words-2.ensures
    (these _ _ _ (if c.args.count == 1 then [] else codes "s") c.push_words-3.ensures (search rules))
