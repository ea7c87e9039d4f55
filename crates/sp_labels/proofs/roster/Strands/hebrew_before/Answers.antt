use Rattle.std.proofs.Common.{sym, subst}
use Rattle.sp_labels.specs.Roster.{Follows, HasBegun}
use Rattle.sp_labels.proofs.Queries.{has-begun-hebrew, hebrew-tells}
use Rattle.sp_labels.proofs.roster.Strands.hebrew_before.Goals as goal

pub is_before-requires-clause-a_known : goal.is_before-requires-clause-a_known
is_before-requires-clause-a_known g c = has-begun-hebrew _ c.args.a (subst (λ r. HasBegun r c.args.a) (sym c.self.view_is) c.requires.a_begun)

pub is_before-requires-clause-b_known : goal.is_before-requires-clause-b_known
is_before-requires-clause-b_known g c = has-begun-hebrew _ c.args.b (subst (λ r. HasBegun r c.args.b) (sym c.self.view_is) c.requires.b_begun)

pub returns : goal.returns
returns g c h f =
    let seen = subst (λ r. Follows r h) (sym c.self.view_is) f in
    let a = subst (λ r. HasBegun r c.args.a) (sym c.self.view_is) c.requires.a_begun in
    let b = subst (λ r. HasBegun r c.args.b) (sym c.self.view_is) c.requires.b_begun in
    let tells = hebrew-tells _ h seen c.args.a c.args.b a b in
    let before = c.is_before.ensures in
    ((λ t. tells.0 (before.0 t)), (λ t. before.1 (tells.1 t)))
