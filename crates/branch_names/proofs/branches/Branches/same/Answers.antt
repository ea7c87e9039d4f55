use Rattle.std.proofs.Common.{length, sym, ap, subst, arith, eq-eqb, IsTrue}
use Rattle.std.proofs.lemmas.Bool.{eqb-true}
use Rattle.branch_names.specs.Names.{Names}
use Rattle.branch_names.proofs.Stored.{length-names, codes-tell}
use Rattle.branch_names.proofs.Queries.{named-known, named-given, same-branches, same-peers}
use Rattle.branch_names.proofs.branches.Branches.same.Goals as goal

pub index-requires : goal.index-requires
index-requires g c =
    let count = ap (λ (r : Names). length r.names) c.self.view_is in
    omega (arith, count, named-known c.args.self.now c.args.first c.requires.first_named, length-names c.self.inside.names.items, c.self.inside.names.ok)

pub index-requires-2 : goal.index-requires-2
index-requires-2 g c =
    let count = ap (λ (r : Names). length r.names) c.self.view_is in
    omega (arith, count, named-known c.args.self.now c.args.second c.requires.second_named, length-names c.self.inside.names.items, c.self.inside.names.ok)

pub returns-clause-branches : goal.returns-clause-branches
returns-clause-branches g c history follows =
    let items = ap (λ (r : Names). r.names) c.self.view_is in
    let codes = codes-tell c.self.inside.names.items c.args.self.now.names c.args.first c.args.second c.index.result.now c.index-2.result.now items (named-known c.args.self.now c.args.first c.requires.first_named) (named-known c.args.self.now c.args.second c.requires.second_named) c.index.ensures c.index-2.ensures (named-given c.args.self.now c.args.first c.requires.first_named) (named-given c.args.self.now c.args.second c.requires.second_named) in
    let agrees = same-branches c.args.self.now history follows c.args.first c.args.second c.requires.first_named c.requires.second_named in
    ((λ t. agrees.0 (codes.0 (eqb-true _ _ (subst IsTrue c.eq.ensures t)))), (λ e. subst IsTrue (sym c.eq.ensures) (eq-eqb _ _ (codes.1 (agrees.1 e)))))

pub returns-clause-peers : goal.returns-clause-peers
returns-clause-peers g c history longer follows extends legal =
    let items = ap (λ (r : Names). r.names) c.self.view_is in
    let codes = codes-tell c.self.inside.names.items c.args.self.now.names c.args.first c.args.second c.index.result.now c.index-2.result.now items (named-known c.args.self.now c.args.first c.requires.first_named) (named-known c.args.self.now c.args.second c.requires.second_named) c.index.ensures c.index-2.ensures (named-given c.args.self.now c.args.first c.requires.first_named) (named-given c.args.self.now c.args.second c.requires.second_named) in
    let agrees = same-peers c.args.self.now history follows longer extends legal c.args.first c.args.second c.requires.first_named c.requires.second_named in
    ((λ t. agrees.0 (codes.0 (eqb-true _ _ (subst IsTrue c.eq.ensures t)))), (λ e. subst IsTrue (sym c.eq.ensures) (eq-eqb _ _ (codes.1 (agrees.1 e)))))
