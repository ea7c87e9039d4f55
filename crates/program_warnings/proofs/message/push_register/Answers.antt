use Rattle.std.proofs.Common.{rules, ◌++◌, codes, decimal}
use Rattle.text_buffers.proofs.Builders.{these, three_adds}
use Rattle.program_warnings.proofs.message.push_register.Goals as goal

pub returns : goal.returns
returns c =
    three_adds _ _ _ _ _ _ _ c.push_three.ensures (these _ _ _ _ c.push_words.ensures c.sort_word.ensures)
    (these _ _ _ (codes " by the declaration at line " ++ decimal c.args.declared.line) c.push_number.ensures (search rules))
