use Rattle.std.proofs.Common.{subst}
use Rattle.race_pairs.specs.Known.{Knows}
use Rattle.race_pairs.proofs.Knowing.{own_more, among_added}
use Rattle.race_pairs.proofs.known.Known.add.Goals as goal

pub returns-in-Own-clause-added : goal.returns-in-Own-clause-added
returns-in-Own-clause-added c = λ pairs pair knows fresh is.
    own_more c.in-Own.count pairs pair (subst (λ known. Knows known pairs) c.in-Own.is knows)

pub returns-in_ok-insert-in-Among-clause-added : goal.returns-in_ok-insert-in-Among-clause-added
returns-in_ok-insert-in-Among-clause-added c = λ pairs pair knows fresh is.
    among_added c.in-Among.all c.insert.new.self c.args.key pairs pair c.len-before.result _ (subst (λ known. Knows known pairs) c.in-Among.is knows) fresh is
    c.len-before.ensures.len c.in_ok-insert-in-Among.ensures.updates.0 c.in_ok-insert-in-Among.ensures.old c.in_ok-insert-in-Among.ensures.len
