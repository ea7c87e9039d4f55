use Rattle.call_tests.proofs.tellings.explanations.is_told.Goals as goal

pub explanation-requires-clause-digest : goal.explanation-requires-clause-digest
explanation-requires-clause-digest g c = (c.history-entries.result.now, c.in_ok-digest.ensures.0)
