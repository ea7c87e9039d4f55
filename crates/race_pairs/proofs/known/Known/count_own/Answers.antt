use Rattle.std.proofs.Common.{sym, ap, ◌∙◌, subst}
use Rattle.std.proofs.lemmas.Bool.{false≢true}
use Rattle.race_pairs.specs.Known.{has_own, Knows}
use Rattle.race_pairs.proofs.Knowing.{own_more}
use Rattle.race_pairs.proofs.known.Known.count_own.Goals as goal

pub returns-in-Own-clause-added : goal.returns-in-Own-clause-added
returns-in-Own-clause-added c = λ pairs pair knows.
    own_more c.in-Own.count pairs pair (subst (λ known. Knows known pairs) c.in-Own.is knows)

pub returns-in-Among-clause-own : goal.returns-in-Among-clause-own
returns-in-Among-clause-own c = absurd (false≢true (sym (ap has_own c.in-Among.is) ∙ c.requires.own))

pub returns-in-Among-clause-added : goal.returns-in-Among-clause-added
returns-in-Among-clause-added c = absurd (false≢true (sym (ap has_own c.in-Among.is) ∙ c.requires.own))
