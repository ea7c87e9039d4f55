use Rattle.std.proofs.Common.{refl, sym, subst, arith}
use Rattle.std.proofs.lemmas.Bool.{false≢true, ltb-true}
use Rattle.sp_labels.specs.Roster.{Follows, HasBegun}
use Rattle.sp_labels.proofs.Packed.{length-unpacked, known-unpacked}
use Rattle.sp_labels.proofs.Queries.{begun-standing, begun-kept, has-begun-known, not-begun}
use Rattle.sp_labels.proofs.roster.Strands.is_begun.Goals as goal

pub record_of-requires : goal.record_of-requires
record_of-requires g c = known-unpacked c.self.inside.records.items c.args.strand (omega (arith, c.if-strand-len.true, c.len.ensures, c.self.inside.records.ok))

pub returns-else-strand-len-clause-each : goal.returns-else-strand-len-clause-each
returns-else-strand-len-clause-each g c history f =
    let seen = subst (λ r. Follows r history) (sym c.self.view_is) f in
    ((λ t. absurd (let l = ltb-true _ _ t in omega (arith, l, c.if-strand-len.false))), (λ begun. absurd (omega (arith, c.if-strand-len.false, c.len.ensures, c.self.inside.records.ok, length-unpacked c.self.inside.records.items, (begun-standing _ history seen c.args.strand begun).0))))

pub returns-else-strand-len-clause-begun : goal.returns-else-strand-len-clause-begun
returns-else-strand-len-clause-begun g c = (
  (λ t. absurd (let l = ltb-true _ _ t in omega (arith, l, c.if-strand-len.false))),
  (λ begun. let seen = subst (λ r. HasBegun r c.args.strand) (sym c.self.view_is) begun in absurd (omega (arith, c.if-strand-len.false, c.len.ensures, c.self.inside.records.ok, length-unpacked c.self.inside.records.items, has-begun-known _ c.args.strand seen))),
)

pub returns-in-Running-clause-each : goal.returns-in-Running-clause-each
returns-in-Running-clause-each g c history now =
    let f = subst (λ r. Follows r history) (sym c.self.view_is) now in
    let lt = known-unpacked c.self.inside.records.items c.args.strand (omega (arith, c.if-strand-len.true, c.len.ensures, c.self.inside.records.ok)) in
    ((λ t. begun-kept _ history f c.args.strand _ lt c.record_of.ensures c.in-Running.is), (λ begun. refl))

pub returns-in-Running-clause-begun : goal.returns-in-Running-clause-begun
returns-in-Running-clause-begun g c =
    let (history, f) = c.self.invariant.0 in
    let now = subst (λ r. Follows r history) c.self.view_is f in
    ((λ t. (history, now, (returns-in-Running-clause-each g c history now).0 t)), (λ begun. refl))

pub returns-in_default-clause-each : goal.returns-in_default-clause-each
returns-in_default-clause-each g c history now =
    let f = subst (λ r. Follows r history) (sym c.self.view_is) now in (
      (λ t. absurd (false≢true t)),
      (λ begun. absurd (not-begun _ history f c.args.strand _ c.record_of.ensures c.in_default.not-Running c.in_default.not-Over begun)),
    )

pub returns-in_default-clause-begun : goal.returns-in_default-clause-begun
returns-in_default-clause-begun g c = (
  (λ t. absurd (false≢true t)),
  (λ (history, now, begun). (returns-in_default-clause-each g c history now).1 begun),
)
