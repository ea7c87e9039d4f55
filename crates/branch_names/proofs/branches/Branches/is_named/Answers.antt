use Rattle.std.proofs.Common.{◌<◌, length, ap, subst, arith}
use Rattle.std.proofs.lemmas.Bool.{ltb-true}
use Rattle.branch_names.specs.Names.{Names, Follows}
use Rattle.branch_names.proofs.Stored.{length-names, name-read}
use Rattle.branch_names.proofs.Queries.{named-known, given-begun}
use Rattle.branch_names.proofs.branches.Branches.is_named.Goals as goal

pub returns-then-strand-len-clause-begun : goal.returns-then-strand-len-clause-begun
returns-then-strand-len-clause-begun g c history follows =
    let items = ap (λ (r : Names). r.names) c.self.view_is in
    let lt : c.args.strand < length c.args.self.now.names = omega (arith, ap length items, length-names c.self.inside.names.items, c.if-strand-len.true, c.len.ensures, c.self.inside.names.ok) in
    given-begun c.args.self.now history follows c.args.strand lt _ _ (name-read c.self.inside.names.items c.args.self.now.names c.args.strand c.index.result.now items lt c.index.ensures) c.is_given.ensures

pub returns-then-strand-len-clause-named : goal.returns-then-strand-len-clause-named
returns-then-strand-len-clause-named g c =
    let (some, follows_some) = c.self.invariant.0 in
    let now = subst (λ r. Follows r some) c.self.view_is follows_some in (
      (λ t. (some, now, (returns-then-strand-len-clause-begun g c some now).0 t)),
      (λ named. let (history, follows, begun) = named in (returns-then-strand-len-clause-begun g c history follows).1 begun),
    )

pub returns-else-strand-len-clause-named : goal.returns-else-strand-len-clause-named
returns-else-strand-len-clause-named g c =
    let items = ap (λ (r : Names). length r.names) c.self.view_is in (
      (λ t. absurd (let l = ltb-true _ _ t in omega (arith, l, c.if-strand-len.false))),
      (λ named. absurd (omega (arith, items, c.if-strand-len.false, c.len.ensures, c.self.inside.names.ok, length-names c.self.inside.names.items, named-known c.args.self.now c.args.strand named))),
    )

pub returns-else-strand-len-clause-begun : goal.returns-else-strand-len-clause-begun
returns-else-strand-len-clause-begun g c history follows =
    let named = returns-else-strand-len-clause-named g c in
    ((λ t. absurd (let l = ltb-true _ _ t in omega (arith, l, c.if-strand-len.false))), (λ begun. absurd (let l = ltb-true _ _ (named.1 (history, follows, begun)) in omega (arith, l, c.if-strand-len.false))))
