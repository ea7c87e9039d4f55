use Rattle.text_buffers.proofs.Builders.{none_adds, three_adds}
use Rattle.race_explanations.proofs.title.push_title.Goals as goal

pub returns-in-Program : goal.returns-in-Program
returns-in-Program c =
    three_adds _ _ _ _ _ _ _ c.push_headline.ensures c.push_words.ensures (rw c.in-Program.is c.push_place.ensures)

pub returns-in-Trace : goal.returns-in-Trace
returns-in-Trace c =
    three_adds _ _ _ _ _ _ _ c.push_headline.ensures c.push_words.ensures (rw c.in-Trace.is (none_adds _))
