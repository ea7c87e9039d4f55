use Rattle.std.proofs.Common.{rules, ◌++◌, codes, decimal}
use Rattle.text_buffers.proofs.Builders.{these, two_adds}
use Rattle.program_warnings.proofs.message.push_wrapped.Goals as goal

pub returns : goal.returns
returns c =
    two_adds _ _ _ _ _ c.push_number.ensures
    (these _ _ _ (codes " wraps at the length of the array, " ++ decimal c.args.length) c.push_number-2.ensures (search rules))
