use Rattle.std.proofs.Common.{◌∙◌}
use Rattle.model_strands.specs.Strands.{running}
use Rattle.law_strands.proofs.Updates.{updated_at, updated_off}
use Rattle.race_pairs.proofs.standing.follow_effect.Goals as goal

pub returns-then-strand-begun-clause-status : goal.returns-then-strand-begun-clause-status
returns-then-strand-begun-clause-status c = λ old. updated_at _ c.args.begun running c.args.strand c.if-strand-begun.true

pub returns-else-strand-begun-clause-status : goal.returns-else-strand-begun-clause-status
returns-else-strand-begun-clause-status c = λ old.
    updated_off _ c.args.begun running c.args.strand c.if-strand-begun.false ∙ c.end_effect.ensures.status old
