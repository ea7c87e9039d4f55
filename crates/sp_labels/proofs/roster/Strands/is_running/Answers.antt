use Rattle.std.proofs.Common.{◌∙◌, ap, inl, refl, sym, subst, arith}
use Rattle.std.proofs.lemmas.Bool.{false≢true, ltb-true}
use Rattle.sp_labels.specs.declared.record.Record.{Record}
use Rattle.sp_labels.specs.Roster.{Follows}
use Rattle.sp_labels.proofs.Packed.{length-unpacked, known-unpacked}
use Rattle.sp_labels.proofs.Queries.{running-known, running-kept}
use Rattle.sp_labels.proofs.roster.Strands.is_running.Goals as goal

pub record_of-requires : goal.record_of-requires
record_of-requires g c = known-unpacked c.self.inside.records.items c.args.strand (omega (arith, c.if-strand-len.true, c.len.ensures, c.self.inside.records.ok))

pub returns-else-strand-len-clause-running : goal.returns-else-strand-len-clause-running
returns-else-strand-len-clause-running g c history f =
    let seen = subst (λ r. Follows r history) (sym c.self.view_is) f in
    ((λ t. absurd (let l = ltb-true _ _ t in omega (arith, l, c.if-strand-len.false))), (λ run. absurd (omega (arith, c.if-strand-len.false, c.len.ensures, c.self.inside.records.ok, length-unpacked c.self.inside.records.items, (running-known _ history seen c.args.strand run).0))))

pub returns-in-Running-clause-running : goal.returns-in-Running-clause-running
returns-in-Running-clause-running g c history now =
    let f = subst (λ r. Follows r history) (sym c.self.view_is) now in
    let lt = known-unpacked c.self.inside.records.items c.args.strand (omega (arith, c.if-strand-len.true, c.len.ensures, c.self.inside.records.ok)) in
    ((λ t. running-kept _ history f c.args.strand _ lt c.record_of.ensures c.in-Running.is), (λ run. refl))

pub returns-in-Running-clause-begun : goal.returns-in-Running-clause-begun
returns-in-Running-clause-begun g c t =
    let (history, f) = c.self.invariant.0 in
    let now = subst (λ r. Follows r history) c.self.view_is f in
    (history, now, inl ((returns-in-Running-clause-running g c history now).0 t))

pub returns-else-strand-len-clause-begun : goal.returns-else-strand-len-clause-begun
returns-else-strand-len-clause-begun g c t = absurd (let l = ltb-true _ _ t in omega (arith, l, c.if-strand-len.false))

pub returns-in_default-clause-running : goal.returns-in_default-clause-running
returns-in_default-clause-running g c history now =
    let f = subst (λ r. Follows r history) (sym c.self.view_is) now in (
      (λ t. absurd (false≢true t)),
      (λ run. absurd (c.in_default.not-Running (ap (λ (k : Record). k.standing) c.record_of.ensures ∙ (running-known _ history f c.args.strand run).1))),
    )

pub returns-in_default-clause-begun : goal.returns-in_default-clause-begun
returns-in_default-clause-begun g c t = absurd (false≢true t)
