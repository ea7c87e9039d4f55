use Rattle.text_buffers.proofs.Builders.{five_adds}
use Rattle.race_explanations.proofs.group.push_beside.Goals as goal

pub returns-in-Some : goal.returns-in-Some
returns-in-Some c =
    rw c.in-Some.is (five_adds _ _ _ _ _ _ _ _ _ _ _ c.push_words.ensures c.push_function.ensures c.push_words-in-Some.ensures c.push_line.ensures
    c.push_words-in-Some-2.ensures)
