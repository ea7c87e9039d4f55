use Rattle.std.proofs.Common.{◌∷◌, sym, subst, refl}
use Rattle.std.proofs.lemmas.Bool.{both_ways}
use Rattle.model_strands.specs.Strands.{Running}
use Rattle.model_strands.specs.History.{resumed, finished}
use Rattle.model_strands.specs.Blocks.{IsSynced}
use Rattle.sp_labels.specs.Roster.{Follows}
use Rattle.sp_labels.proofs.Puts.{standing-put}
use Rattle.sp_labels.proofs.Causes.{no-room, call-no-block, child-no-block, granted, refused, not-unsynced, was-running}
use Rattle.sp_labels.proofs.Acting.{acting-known, in-root, in-child, in-call, in-block, in-synced}
use Rattle.sp_labels.proofs.Quiet.{follows-resumed, follows-finished}
use Rattle.sp_labels.proofs.roster.Strands.ret.Goals as goal

pub record_of-kept-requires : goal.record_of-kept-requires
record_of-kept-requires g c = acting-known _ _ _ _ c.self.view_is c.self.invariant.0 c.is_running.ensures.running c.if-not-is_running.false

pub put-requires : goal.put-requires
put-requires g c = acting-known _ _ _ _ c.self.view_is c.self.invariant.0 c.is_running.ensures.running c.if-not-is_running.false

pub remove-scope-requires : goal.remove-scope-requires
remove-scope-requires g c =
    let (history, f) = c.self.invariant.0 in
    let run : Running history c.args.strand = (c.is_running.ensures.running history (subst (λ r. Follows r history) c.self.view_is f)).0 c.if-not-is_running.false in
    rw (in-call _ history f c.args.strand c.in-Call.caller _ run c.record_of-kept.ensures c.in-Call.is).caller_is refl

pub returns-in-Call-clause-ok : goal.returns-in-Call-clause-ok
returns-in-Call-clause-ok g c history now =
    let f = subst (λ r. Follows r history) (sym c.self.view_is) now in
    let run : Running history c.args.strand = (c.is_running.ensures.running history now).0 c.if-not-is_running.false in
    follows-resumed _ history c.args.strand c.in-Call.caller _ _ _ _ f run c.record_of-kept.ensures c.put.ensures.put (in-call _ history f c.args.strand c.in-Call.caller _ run c.record_of-kept.ensures c.in-Call.is)
    c.remove-scope.ensures.value c.remove-scope.ensures.updates.others

pub invariant_of-self : goal.invariant_of-self
invariant_of-self g c =
    let (history, f) = c.self.invariant.0 in
    ((resumed c.args.strand ∷ history, returns-in-Call-clause-ok g c history (subst (λ r. Follows r history) c.self.view_is f)), no-room)

pub set_standing-requires : goal.set_standing-requires
set_standing-requires g c = acting-known _ _ _ _ c.self.view_is c.self.invariant.0 c.is_running.ensures.running c.if-not-is_running.false

pub returns-in-Root-clause-ok : goal.returns-in-Root-clause-ok
returns-in-Root-clause-ok g c history now =
    let f = subst (λ r. Follows r history) (sym c.self.view_is) now in
    let run : Running history c.args.strand = (c.is_running.ensures.running history now).0 c.if-not-is_running.false in
    follows-finished _ history c.args.strand _ _ f run (in-root _ history f c.args.strand _ run c.record_of-kept.ensures c.in-Root.is) c.record_of-kept.ensures (standing-put _ _ _ _ _ c.record_of-kept.ensures c.set_standing.ensures.put)

pub invariant_of-self-in-Root : goal.invariant_of-self-in-Root
invariant_of-self-in-Root g c =
    let (history, f) = c.self.invariant.0 in
    ((finished c.args.strand ∷ history, returns-in-Root-clause-ok g c history (subst (λ r. Follows r history) c.self.view_is f)), no-room)

pub end_child-requires-clause-running : goal.end_child-requires-clause-running
end_child-requires-clause-running g c history now = (c.is_running.ensures.running history now).0 c.if-not-is_running.false

pub end_child-requires-clause-child : goal.end_child-requires-clause-child
end_child-requires-clause-child g c history now =
    let f = subst (λ r. Follows r history) (sym c.self.view_is) now in
    let run : Running history c.args.strand = (c.is_running.ensures.running history now).0 c.if-not-is_running.false in
    in-child _ history f c.args.strand c.in-Child.block _ run c.record_of-kept.ensures c.in-Child.is

pub returns-in-Root-clause-unsynced : goal.returns-in-Root-clause-unsynced
returns-in-Root-clause-unsynced g c history now =
    let f = subst (λ r. Follows r history) (sym c.self.view_is) now in
    let run : Running history c.args.strand = (c.is_running.ensures.running history now).0 c.if-not-is_running.false in
    let at = in-root _ history f c.args.strand _ run c.record_of-kept.ensures c.in-Root.is in
    granted _ _ (λ t. t.1 (subst IsSynced (sym at) tt))

pub returns-in-Block-clause-err : goal.returns-in-Block-clause-err
returns-in-Block-clause-err g c = refl

pub returns-then-not-is_running-clause-not_running : goal.returns-then-not-is_running-clause-not_running
returns-then-not-is_running-clause-not_running g c history now =
    refused _ (λ run. both_ways _ c.if-not-is_running.true ((c.is_running.ensures.running history now).1 run))

pub returns-then-not-is_running-clause-unsynced : goal.returns-then-not-is_running-clause-unsynced
returns-then-not-is_running-clause-unsynced g c history now =
    not-unsynced (λ t. both_ways _ c.if-not-is_running.true ((c.is_running.ensures.running history now).1 t.0))

pub returns-in-Block-clause-not_running : goal.returns-in-Block-clause-not_running
returns-in-Block-clause-not_running g c history now =
    let run : Running history c.args.strand = (c.is_running.ensures.running history now).0 c.if-not-is_running.false in
    was-running (λ none. none run)

pub returns-in-Call-clause-not_running : goal.returns-in-Call-clause-not_running
returns-in-Call-clause-not_running g c history now =
    let run : Running history c.args.strand = (c.is_running.ensures.running history now).0 c.if-not-is_running.false in
    granted _ _ (λ none. none run)

pub returns-in-Root-clause-not_running : goal.returns-in-Root-clause-not_running
returns-in-Root-clause-not_running g c history now =
    let run : Running history c.args.strand = (c.is_running.ensures.running history now).0 c.if-not-is_running.false in
    granted _ _ (λ none. none run)

pub returns-in-Child-clause-not_running : goal.returns-in-Child-clause-not_running
returns-in-Child-clause-not_running g c history now =
    let run : Running history c.args.strand = (c.is_running.ensures.running history now).0 c.if-not-is_running.false in
    granted _ _ (λ none. none run)

pub returns-in-Block-clause-unsynced : goal.returns-in-Block-clause-unsynced
returns-in-Block-clause-unsynced g c history now =
    let f = subst (λ r. Follows r history) (sym c.self.view_is) now in
    let run : Running history c.args.strand = (c.is_running.ensures.running history now).0 c.if-not-is_running.false in
    let at = in-block _ history f c.args.strand _ _ run c.record_of-kept.ensures c.in-Block.is in
    refused _ (run, λ synced. subst IsSynced at.1 synced)

pub returns-in-Call-clause-unsynced : goal.returns-in-Call-clause-unsynced
returns-in-Call-clause-unsynced g c history now =
    let f = subst (λ r. Follows r history) (sym c.self.view_is) now in
    let run : Running history c.args.strand = (c.is_running.ensures.running history now).0 c.if-not-is_running.false in
    let synced = in-synced _ history f c.args.strand _ run c.record_of-kept.ensures (λ join. call-no-block c.in-Call.is) in
    granted _ _ (λ t. t.1 synced)

pub returns-in-Child-clause-unsynced : goal.returns-in-Child-clause-unsynced
returns-in-Child-clause-unsynced g c history now =
    let f = subst (λ r. Follows r history) (sym c.self.view_is) now in
    let run : Running history c.args.strand = (c.is_running.ensures.running history now).0 c.if-not-is_running.false in
    let synced = in-synced _ history f c.args.strand _ run c.record_of-kept.ensures (λ join. child-no-block c.in-Child.is) in
    granted _ _ (λ t. t.1 synced)
