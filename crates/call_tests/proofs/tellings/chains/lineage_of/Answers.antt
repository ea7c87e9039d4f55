use Rattle.std.proofs.Common.{List, reverse, sym, subst}
use Rattle.model_histories.specs.declared.answer.Entry.{Entry}
use Rattle.model_histories.specs.Legal.{IsLegal}
use Rattle.race_gate.proofs.Races.{legal-part}
use Rattle.call_tests.proofs.tellings.chains.lineage_of.Goals as goal

pub of-requires-clause-legal : goal.of-requires-clause-legal
of-requires-clause-legal c =
    let shape = c.args.gate.now.shape in
    let legal = subst (λ (xs : List Entry). IsLegal shape xs) (sym c.history-entries.ensures.entries) c.history-entries.ensures.judged.legal in
    legal-part shape (reverse c.history-entries.result.now) legal
