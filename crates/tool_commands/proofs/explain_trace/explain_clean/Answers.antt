use Rattle.text_buffers.proofs.Builders.{these, two_adds, three_adds, built}
use Rattle.tool_commands.proofs.explain_trace.explain_clean.Goals as goal

pub returns : goal.returns
returns c =
    built _ _ _ _ c.new-told.ensures
    (two_adds _ _ _ _ _ (these _ _ _ _ c.push_words.ensures c.clean_words.ensures)
    (three_adds _ _ _ _ _ _ _ c.push_words-2.ensures c.push_count.ensures c.push_words-3.ensures)) c.end.ensures
