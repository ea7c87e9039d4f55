use Rattle.std.proofs.Common.{subst}
use Rattle.std.proofs.lemmas.Result.{IfOk-weaker}
use Rattle.race_pairs.specs.Refusals.{IsSideAt}
use Rattle.race_pairs.proofs.Encountered.{chain_some}
use Rattle.race_pairs.proofs.encounter.chain_at.Goals as goal

pub returns-in-Some : goal.returns-in-Some
returns-in-Some c =
    IfOk-weaker c.chain.result _ _ (λ chain gives told is side_is. chain_some told c.args.digest.now c.args.number c.in-Some.side chain.items is
    (subst (IsSideAt told c.args.number) c.in-Some.is side_is) gives) c.chain.ensures
