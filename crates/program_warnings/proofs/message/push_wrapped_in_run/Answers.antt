use Rattle.std.proofs.Common.{rules, ◌++◌, codes, decimal}
use Rattle.text_buffers.proofs.Builders.{these, three_adds}
use Rattle.program_warnings.proofs.message.push_wrapped_in_run.Goals as goal

pub returns : goal.returns
returns c =
    three_adds _ _ _ _ _ _ _ c.push_three.ensures c.push_number.ensures
    (these _ _ _ (codes " and wraps at the length of the array, " ++ decimal c.args.length) c.push_number-2.ensures (search rules))
