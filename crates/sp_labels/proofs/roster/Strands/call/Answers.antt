use Rattle.std.proofs.Common.{◌∷◌, ◌∙◌, sym, subst, ap, get_or, None}
use Rattle.slab.specs.Slab.{Slab}
use Rattle.sp_labels.specs.declared.record.Scope.{Scope}
use Rattle.model_strands.specs.Strands.{Running}
use Rattle.model_strands.specs.History.{call}
use Rattle.sp_labels.specs.Packing.{all_unpacked}
use Rattle.sp_labels.specs.Roster.{Follows}
use Rattle.sp_labels.proofs.Causes.{no-room}
use Rattle.sp_labels.proofs.Acting.{acting-known}
use Rattle.sp_labels.proofs.Quiet.{follows-call}
use Rattle.sp_labels.proofs.roster.Strands.call.Goals as goal

pub record_of-kept-requires : goal.record_of-kept-requires
record_of-kept-requires g c = acting-known _ _ _ _ c.self.view_is c.self.invariant.0 c.is_running.ensures.running c.if-not-is_running.false

pub put-requires : goal.put-requires
put-requires g c = acting-known _ _ _ _ c.self.view_is c.self.invariant.0 c.is_running.ensures.running c.if-not-is_running.false

pub returns-clause-ok : goal.returns-clause-ok
returns-clause-ok g c history now =
    let f = subst (λ r. Follows r history) (sym c.self.view_is) now in
    let run : Running history c.args.strand = (c.is_running.ensures.running history now).0 c.if-not-is_running.false in
    follows-call _ history c.args.strand c.insert_reserved-caller.result c.insert_reserved-caller.new.self.slots c.record_of-kept.result (all_unpacked c.put.new.records.items) f run c.record_of-kept.ensures
    c.put.ensures.put
    (ap (λ (s : Slab Scope). get_or s.slots c.insert_reserved-caller.result None) (sym c.reserve_caller.ensures.kept) ∙ c.insert_reserved-caller.ensures.was_vacant)
    c.insert_reserved-caller.ensures.updates.changed
    (λ other ne. c.insert_reserved-caller.ensures.updates.others other ne ∙ ap (λ (s : Slab Scope). get_or s.slots other None) c.reserve_caller.ensures.kept)

pub invariant_of-self-2 : goal.invariant_of-self-2
invariant_of-self-2 g c =
    let (history, f) = c.self.invariant.0 in
    ((call c.args.strand ∷ history, returns-clause-ok g c history (subst (λ r. Follows r history) c.self.view_is f)), no-room)
