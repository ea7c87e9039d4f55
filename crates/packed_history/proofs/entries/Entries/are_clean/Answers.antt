use Rattle.std.proofs.lemmas.List.Elements.{All-map}
use Rattle.model_histories.specs.declared.answer.Entry.{Entry}
use Rattle.model_histories.specs.Extensions.{IsCleanAnswer}
use Rattle.packed_history.specs.Entries.{entry_of}
use Rattle.packed_history.proofs.entries.Entries.are_clean.Goals as goal

pub returns : goal.returns
returns g c told =
    rw (← c.self.view_is) (All-map (λ (entry : Entry). IsCleanAnswer entry.answer) entry_of c.self.inside.receipts.items (c.are_clean.ensures told))
