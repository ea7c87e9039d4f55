use Rattle.std.proofs.Common.{sym, ap, subst}
use Rattle.std.proofs.lemmas.Bool.{both_ways}
use Rattle.model_strands.specs.Strands.{Running}
use Rattle.sp_labels.specs.Roster.{Roster, Follows}
use Rattle.sp_labels.proofs.Causes.{granted, refused, not-full, ok-err}
use Rattle.sp_labels.proofs.Acting.{acting-known, in-block, in-synced, reserved-follows}
use Rattle.sp_labels.proofs.roster.Strands.spawn.Goals as goal

pub record_of-requires : goal.record_of-requires
record_of-requires g c = acting-known _ _ _ _ c.self.view_is c.self.invariant.0 (λ history made. c.is_running.ensures.running history (reserved-follows _ _ history c.in_ok-reserve_event.ensures.ok made)) c.if-not-is_running.false

pub spawn_in_block-requires-clause-room : goal.spawn_in_block-requires-clause-room
spawn_in_block-requires-clause-room g c = ap (λ (r : Roster). r.has_room) c.in_ok-reserve_event.ensures.ok

pub spawn_in_block-requires-clause-running : goal.spawn_in_block-requires-clause-running
spawn_in_block-requires-clause-running g c history now =
    (c.is_running.ensures.running history (reserved-follows _ _ history c.in_ok-reserve_event.ensures.ok now)).0 c.if-not-is_running.false

pub spawn_in_block-requires-clause-in_block : goal.spawn_in_block-requires-clause-in_block
spawn_in_block-requires-clause-in_block g c history now =
    let f = subst (λ r. Follows r history) (sym c.self.view_is) now in
    let run : Running history c.args.strand = (c.is_running.ensures.running history (reserved-follows _ _ history c.in_ok-reserve_event.ensures.ok now)).0 c.if-not-is_running.false in
    in-block _ history f c.args.strand c.in-Block.join _ run c.record_of.ensures c.in-Block.is

pub spawn_first-requires : goal.spawn_first-requires
spawn_first-requires g c = record {
  room = ap (λ (r : Roster). r.has_room) c.in_ok-reserve_event.ensures.ok;
  running = λ history now. (c.is_running.ensures.running history (reserved-follows _ _ history c.in_ok-reserve_event.ensures.ok now)).0 c.if-not-is_running.false;
  synced = λ history now.
      let f = subst (λ r. Follows r history) (sym c.self.view_is) now in
      let run : Running history c.args.strand = (c.is_running.ensures.running history (reserved-follows _ _ history c.in_ok-reserve_event.ensures.ok now)).0 c.if-not-is_running.false in
      in-synced _ history f c.args.strand _ run c.record_of.ensures (λ join e. c.in_default.not-Block join e);
}

pub returns-then-not-is_running-clause-not_running : goal.returns-then-not-is_running-clause-not_running
returns-then-not-is_running-clause-not_running g c history now =
    refused _ (λ run. both_ways _ c.if-not-is_running.true ((c.is_running.ensures.running history now).1 run))

pub returns-then-not-is_running-clause-full : goal.returns-then-not-is_running-clause-full
returns-then-not-is_running-clause-full g c history now =
    not-full (λ few. both_ways _ c.if-not-is_running.true ((c.is_running.ensures.running history now).1 few.0))

pub returns-in-Block-clause-not_running : goal.returns-in-Block-clause-not_running
returns-in-Block-clause-not_running g c history now =
    let run : Running history c.args.strand = (c.is_running.ensures.running history now).0 c.if-not-is_running.false in
    granted _ _ (λ none. none run)

pub returns-in-Block-clause-full : goal.returns-in-Block-clause-full
returns-in-Block-clause-full g c history now =
    granted _ _ (λ few. ok-err ((c.in_ok-reserve_event.ensures.full history now).1 (few.1, few.2)))

pub returns-in_default-clause-not_running : goal.returns-in_default-clause-not_running
returns-in_default-clause-not_running g c history now =
    let run : Running history c.args.strand = (c.is_running.ensures.running history now).0 c.if-not-is_running.false in
    granted _ _ (λ none. none run)

pub returns-in_default-clause-full : goal.returns-in_default-clause-full
returns-in_default-clause-full g c history now =
    granted _ _ (λ few. ok-err ((c.in_ok-reserve_event.ensures.full history now).1 (few.1, few.2)))
