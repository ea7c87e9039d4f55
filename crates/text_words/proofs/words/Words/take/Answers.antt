use Rattle.text_words.proofs.WordsOfLine.{next_word}
use Rattle.text_words.proofs.words.Words.take.Goals as goal

pub invariant_of-self : goal.invariant_of-self
invariant_of-self c = (next_word c.self.inside.rest c.next.result c.next.new.self c.self.invariant c.next.ensures.steps).1

pub returns : goal.returns
returns c = rw (← c.self.view_is) (next_word c.self.inside.rest c.next.result c.next.new.self c.self.invariant c.next.ensures.steps).0
