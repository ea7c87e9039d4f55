use Rattle.std.proofs.Common.{◌∷◌, sym, subst, arith}
use Rattle.std.proofs.lemmas.Bool.{both_ways}
use Rattle.model_strands.specs.Strands.{Running}
use Rattle.model_strands.specs.History.{joined, waits}
use Rattle.sp_labels.specs.Roster.{Follows}
use Rattle.sp_labels.proofs.Puts.{standing-put}
use Rattle.sp_labels.proofs.Causes.{no-room, granted, refused}
use Rattle.sp_labels.proofs.Acting.{acting-known, block-known, in-block, in-synced}
use Rattle.sp_labels.proofs.Quiet.{follows-same, follows-joined, follows-waits}
use Rattle.sp_labels.proofs.roster.Strands.sync.Goals as goal

pub record_of-requires : goal.record_of-requires
record_of-requires g c = acting-known _ _ _ _ c.self.view_is c.self.invariant.0 c.is_running.ensures.running c.if-not-is_running.false

pub set_standing-requires : goal.set_standing-requires
set_standing-requires g c = acting-known _ _ _ _ c.self.view_is c.self.invariant.0 c.is_running.ensures.running c.if-not-is_running.false

pub record_of-requires-in-Block : goal.record_of-requires-in-Block
record_of-requires-in-Block g c =
    omega (arith, c.set_standing.ensures.put.len, block-known _ _ _ _ _ _ c.self.view_is c.self.invariant.0 c.is_running.ensures.running c.if-not-is_running.false c.record_of.ensures c.in-Block.is)

pub set_standing-requires-then-record_of-eq0 : goal.set_standing-requires-then-record_of-eq0
set_standing-requires-then-record_of-eq0 g c =
    omega (arith, c.set_standing.ensures.put.len, block-known _ _ _ _ _ _ c.self.view_is c.self.invariant.0 c.is_running.ensures.running c.if-not-is_running.false c.record_of.ensures c.in-Block.is)

pub set_standing-requires-else-record_of-eq0 : goal.set_standing-requires-else-record_of-eq0
set_standing-requires-else-record_of-eq0 g c =
    omega (arith, c.set_standing.ensures.put.len, block-known _ _ _ _ _ _ c.self.view_is c.self.invariant.0 c.is_running.ensures.running c.if-not-is_running.false c.record_of.ensures c.in-Block.is)

pub returns-then-record_of-eq0-clause-ok : goal.returns-then-record_of-eq0-clause-ok
returns-then-record_of-eq0-clause-ok g c history now =
    let f = subst (λ r. Follows r history) (sym c.self.view_is) now in
    let run : Running history c.args.strand = (c.is_running.ensures.running history now).0 c.if-not-is_running.false in
    let at = in-block _ history f c.args.strand c.in-Block.join _ run c.record_of.ensures c.in-Block.is in
    let put = standing-put _ _ _ _ _ c.record_of.ensures c.set_standing.ensures.put in
    follows-joined _ history c.args.strand c.in-Block.join at.0 _ _ _ _ f run at.1 c.record_of.ensures put c.record_of-in-Block.ensures (standing-put _ _ _ _ _ c.record_of-in-Block.ensures c.set_standing-then-record_of-eq0.ensures.put) c.if-record_of-eq0.true

pub invariant_of-self : goal.invariant_of-self
invariant_of-self g c =
    let (history, f) = c.self.invariant.0 in
    ((joined c.args.strand c.in-Block.join ∷ history, returns-then-record_of-eq0-clause-ok g c history (subst (λ r. Follows r history) c.self.view_is f)), no-room)

pub returns-else-record_of-eq0-clause-ok : goal.returns-else-record_of-eq0-clause-ok
returns-else-record_of-eq0-clause-ok g c history now =
    let f = subst (λ r. Follows r history) (sym c.self.view_is) now in
    let run : Running history c.args.strand = (c.is_running.ensures.running history now).0 c.if-not-is_running.false in
    let at = in-block _ history f c.args.strand c.in-Block.join _ run c.record_of.ensures c.in-Block.is in
    let put = standing-put _ _ _ _ _ c.record_of.ensures c.set_standing.ensures.put in
    follows-waits _ history c.args.strand c.in-Block.join at.0 _ _ _ _ f run at.1 c.record_of.ensures put c.record_of-in-Block.ensures (standing-put _ _ _ _ _ c.record_of-in-Block.ensures c.set_standing-else-record_of-eq0.ensures.put) c.if-record_of-eq0.false

pub invariant_of-self-else-record_of-eq0 : goal.invariant_of-self-else-record_of-eq0
invariant_of-self-else-record_of-eq0 g c =
    let (history, f) = c.self.invariant.0 in
    ((waits c.args.strand ∷ history, returns-else-record_of-eq0-clause-ok g c history (subst (λ r. Follows r history) c.self.view_is f)), no-room)

pub returns-in_default-clause-ok : goal.returns-in_default-clause-ok
returns-in_default-clause-ok g c history now =
    let f = subst (λ r. Follows r history) (sym c.self.view_is) now in
    let run : Running history c.args.strand = (c.is_running.ensures.running history now).0 c.if-not-is_running.false in
    follows-same _ history c.args.strand f run (in-synced _ history f c.args.strand _ run c.record_of.ensures (λ join e. c.in_default.not-Block join e))

pub returns-then-not-is_running-clause-not_running : goal.returns-then-not-is_running-clause-not_running
returns-then-not-is_running-clause-not_running g c history now =
    refused _ (λ run. both_ways _ c.if-not-is_running.true ((c.is_running.ensures.running history now).1 run))

pub returns-then-record_of-eq0-clause-not_running : goal.returns-then-record_of-eq0-clause-not_running
returns-then-record_of-eq0-clause-not_running g c history now =
    let run : Running history c.args.strand = (c.is_running.ensures.running history now).0 c.if-not-is_running.false in
    granted _ _ (λ none. none run)

pub returns-else-record_of-eq0-clause-not_running : goal.returns-else-record_of-eq0-clause-not_running
returns-else-record_of-eq0-clause-not_running g c history now =
    let run : Running history c.args.strand = (c.is_running.ensures.running history now).0 c.if-not-is_running.false in
    granted _ _ (λ none. none run)

pub returns-in_default-clause-not_running : goal.returns-in_default-clause-not_running
returns-in_default-clause-not_running g c history now =
    let run : Running history c.args.strand = (c.is_running.ensures.running history now).0 c.if-not-is_running.false in
    granted _ _ (λ none. none run)
