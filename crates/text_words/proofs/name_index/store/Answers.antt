use Rattle.text_words.proofs.SlotLemmas.{adds_at}
use Rattle.text_words.proofs.name_index.store.Goals as goal

pub returns-clause-adds : goal.returns-clause-adds
returns-clause-adds g c = adds_at c.args.overflow.now c.insert.new.self c.args.name.now c.args.number c.in_ok-insert.ensures.updates
