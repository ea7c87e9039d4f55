use Rattle.std.proofs.Common.{rules, length}
use Rattle.race_explanations.specs.Titles.{left_out}
use Rattle.text_buffers.proofs.Builders.{these, two_adds, five_adds}
use Rattle.race_explanations.proofs.found_told.tell_with.Goals as goal

pub returns : goal.returns
returns c =
    two_adds _ _ _ _ _
    (two_adds _ _ _ _ _
    (two_adds _ _ _ _ _
    (two_adds _ _ _ _ _
    (five_adds _ _ _ _ _ _ _ _ _ _ _ (these _ _ _ _ c.push_bytes.ensures c.as_slice.ensures.value) (these _ _ _ _ c.push_bytes-2.ensures c.as_slice-2.ensures.value)
    (these _ _ _ (left_out 1 (length c.args.finding.now.names.keys)) c.push_left_out.ensures (search rules)) c.push_words.ensures c.push_count.ensures) c.push_words-2.ensures)
    (these _ _ _ _ c.push_bytes-3.ensures c.as_slice-3.ensures.value)) c.push_bytes-4.ensures) c.push_words-3.ensures
