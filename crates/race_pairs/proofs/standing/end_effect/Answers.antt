use Rattle.model_strands.specs.Strands.{over}
use Rattle.law_strands.proofs.Updates.{updated_at, updated_off}
use Rattle.race_pairs.proofs.standing.end_effect.Goals as goal

pub returns-then-strand-ended-clause-status : goal.returns-then-strand-ended-clause-status
returns-then-strand-ended-clause-status c = λ old. updated_at old c.args.ended over c.args.strand c.if-strand-ended.true

pub returns-else-strand-ended-clause-status : goal.returns-else-strand-ended-clause-status
returns-else-strand-ended-clause-status c = λ old. updated_off old c.args.ended over c.args.strand c.if-strand-ended.false
