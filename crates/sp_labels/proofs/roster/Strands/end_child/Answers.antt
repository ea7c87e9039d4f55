use Rattle.std.proofs.Common.{◌≡◌, ◌≢◌, ◌∷◌, ◌∙◌, sym, ap, subst, arith, refl}
use Rattle.std.proofs.lemmas.Bool.{both_ways}
use Rattle.model_strands.specs.History.{ended, ended_joined}
use Rattle.model_strands.specs.Blocks.{enclosing}
use Rattle.law_strands.specs.Counts.{children_left}
use Rattle.sp_labels.specs.declared.record.Standing.TheVariants.{Over}
use Rattle.sp_labels.specs.declared.record.Record.{Record}
use Rattle.sp_labels.specs.Packing.{all_unpacked}
use Rattle.sp_labels.specs.Roster.{Follows, record_at, IsPut}
use Rattle.sp_labels.proofs.Causes.{no-room}
use Rattle.sp_labels.proofs.Queries.{running-known}
use Rattle.sp_labels.proofs.Acting.{join-known}
use Rattle.sp_labels.proofs.Counts.{child-left, join-apart}
use Rattle.sp_labels.proofs.Quiet.{follows-ended, follows-ended-joined}
use Rattle.sp_labels.proofs.roster.Strands.end_child.Goals as goal
use Rattle.sp_labels.proofs.roster.Strands.end_child.Goals.{else-children_left-eq0-via-then-children_left-eq0+else-matches, in-Awaited, in_default, else-children_left-eq0-via-else-children_left-eq0}

pub set_standing-requires : goal.set_standing-requires
set_standing-requires g c =
    let (history, f) = c.self.invariant.0 in
    (running-known _ history f c.args.strand (c.requires.running history (subst (λ r. Follows r history) c.self.view_is f))).0

pub record_of-joining-requires : goal.record_of-joining-requires
record_of-joining-requires g c =
    let (history, f) = c.self.invariant.0 in
    let now = subst (λ r. Follows r history) c.self.view_is f in
    omega (arith, c.set_standing.ensures.put.len, join-known _ history f c.args.strand c.args.join (ap enclosing (c.requires.child history now).1))

pub overflow_sub-children_left : goal.overflow_sub-children_left
overflow_sub-children_left g c =
    let (history, f) = c.self.invariant.0 in
    let now = subst (λ r. Follows r history) c.self.view_is f in
    let run = c.requires.running history now in
    let put = c.set_standing.ensures.put in
    let at = c.requires.child history now in
    let apart = join-apart history f.legal c.args.strand c.args.join run (ap enclosing at.1) in
    let join_lt = join-known _ history f c.args.strand c.args.join (ap enclosing at.1) in
    let some : children_left history c.args.join ≢ 0 = child-left history f.legal c.args.strand at.0 c.args.join run at.1 in
    let its : c.record_of-joining.result.children_left ≡ children_left history c.args.join =
    ap (λ (k : Record). k.children_left) (c.record_of-joining.ensures ∙ put.others c.args.join (λ e. apart (sym e))) ∙ (f.each c.args.join join_lt).children in
    grind (arith, some, its)

pub put-requires : goal.put-requires
put-requires g c =
    let (history, f) = c.self.invariant.0 in
    let now = subst (λ r. Follows r history) c.self.view_is f in
    omega (arith, c.set_standing.ensures.put.len, join-known _ history f c.args.strand c.args.join (ap enclosing (c.requires.child history now).1))

pub put-requires-else-children_left-eq0 : goal.put-requires-else-children_left-eq0
put-requires-else-children_left-eq0 g c =
    let (history, f) = c.self.invariant.0 in
    let now = subst (λ r. Follows r history) c.self.view_is f in
    omega (arith, c.set_standing.ensures.put.len, join-known _ history f c.args.strand c.args.join (ap enclosing (c.requires.child history now).1))

pub returns-then-matches-clause-returned : goal.returns-then-matches-clause-returned
returns-then-matches-clause-returned g c history now =
    let f = subst (λ r. Follows r history) (sym c.self.view_is) now in
    let run = c.requires.running history now in
    let at = c.requires.child history now in
    let kept : Record = record_at (all_unpacked c.self.inside.records.items) c.args.strand in
    let put : IsPut (all_unpacked c.self.inside.records.items) c.args.strand (record kept { standing = Over }) (all_unpacked c.set_standing.new.records.items) = c.set_standing.ensures.put in
    follows-ended-joined _ history c.args.strand at.0 c.args.join _ _ _ _ _ f run at.1 refl put c.record_of-joining.ensures refl c.put.ensures.put
    c.if-children_left-eq0.true (elim c.match-matches.branch [ in-Awaited w ↦ w.in-Awaited.is | in_default w ↦ absurd (both_ways _ w.matches-is c.if-matches.true) ])

pub invariant_of-self : goal.invariant_of-self
invariant_of-self g c =
    let (history, f) = c.self.invariant.0 in
    ((ended_joined c.args.strand c.args.join ∷ history, returns-then-matches-clause-returned g c history (subst (λ r. Follows r history) c.self.view_is f)), no-room)

pub returns-else-children_left-eq0-clause-returned : goal.returns-else-children_left-eq0-clause-returned
returns-else-children_left-eq0-clause-returned g c history now =
    let f = subst (λ r. Follows r history) (sym c.self.view_is) now in
    let run = c.requires.running history now in
    let at = c.requires.child history now in
    let kept : Record = record_at (all_unpacked c.self.inside.records.items) c.args.strand in
    let put : IsPut (all_unpacked c.self.inside.records.items) c.args.strand (record kept { standing = Over }) (all_unpacked c.set_standing.new.records.items) = c.set_standing.ensures.put in
    follows-ended _ history c.args.strand at.0 c.args.join _ _ _ _ _ f run at.1 refl put c.record_of-joining.ensures refl c.put-else-children_left-eq0.ensures.put
    (elim c.else-children_left-eq0.branch [
      | else-children_left-eq0-via-then-children_left-eq0+else-matches w ↦ elim w.match-matches.branch [
        | in-Awaited v ↦ (λ none awaited. both_ways _ w.if-matches.false v.matches-is)
        | in_default v ↦ (λ none awaited. v.in_default.not-Awaited awaited)
      ]
      | else-children_left-eq0-via-else-children_left-eq0 w ↦ (λ none awaited. w.if-children_left-eq0.false none)
    ])

pub invariant_of-self-else-children_left-eq0 : goal.invariant_of-self-else-children_left-eq0
invariant_of-self-else-children_left-eq0 g c =
    let (history, f) = c.self.invariant.0 in
    ((ended c.args.strand ∷ history, returns-else-children_left-eq0-clause-returned g c history (subst (λ r. Follows r history) c.self.view_is f)), no-room)
