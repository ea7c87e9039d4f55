-- A function without an open block returns: the root function does not, a called one to its caller, a spawned one beside its spawn.
use Rattle.std.proofs.Common.{◌∙◌, inl, inr, sym, ap, subst, refl, length, ◌-◌}
use Rattle.std.specs.List.{slice_get}
use Rattle.model_strands.specs.History.{resumed, ended}
use Rattle.model_serial_runs.specs.Current.{current}
use Rattle.serial_judge.specs.Judge.{Judge}
use Rattle.serial_judge.specs.Runs.{and_then}
use Rattle.serial_judge.specs.Scopes.{IsClosed}
use Rattle.serial_judge.specs.Follows.{Follows}
use Rattle.serial_judge.proofs.Events.{innermost, alone_at_root, reverse-none, reverse-popped, turned, not_root, follows_resumed, follows_ended, add_ascending, add_order, add_fixed}
use Rattle.serial_judge.proofs.judge.SerialJudge.step_out.Goals as goal

pub returns-in-None-clause-at_root : goal.returns-in-None-clause-at_root
returns-in-None-clause-at_root g c run f = (
  (λ e. alone_at_root run _ _ (innermost run _ _ _ _ _ _ _
      (turned run _ _ _ _ _ _ _ _ (reverse-none c.self.inside.callers.items (c.in-None.ensures.value ∙ ap (λ z. slice_get z (length z - 1)) c.deref.ensures.value))
      (subst (λ (z : Judge). Follows z run) (sym c.self.view_is) f))
      (subst (λ (z : Judge). IsClosed z.scopes) (sym c.self.view_is) c.requires))),
  (λ e. refl),
)

pub returns-then-self-ge-MOST_EVENTS-clause-at_root : goal.returns-then-self-ge-MOST_EVENTS-clause-at_root
returns-then-self-ge-MOST_EVENTS-clause-at_root g c run f =
    let is = reverse-popped c.self.inside.callers.items c.deref.result.now _ c.in-Some.around.now _ c.in-Some.ensures.value c.deref.ensures.value c.deref.ensures.len refl in
    let closed = subst (λ (z : Judge). IsClosed z.scopes) (sym c.self.view_is) c.requires in (
      (λ e. cc),
      (λ r. absurd (not_root run _ _ _ _ _ _ _ _ (turned run _ _ _ _ _ _ _ _ is (subst (λ (z : Judge). Follows z run) (sym c.self.view_is) f)) closed r)),
    )

pub add-requires-clause-ascending : goal.add-requires-clause-ascending
add-requires-clause-ascending g c =
    let is = reverse-popped c.self.inside.callers.items c.deref.result.now _ c.in-Some.around.now _ c.in-Some.ensures.value c.deref.ensures.value c.deref.ensures.len refl in
    let closed = subst (λ (z : Judge). IsClosed z.scopes) (sym c.self.view_is) c.requires in
    add_ascending c.self.invariant.0 _ _ _ _ _ _ _ _ (turned c.self.invariant.0 _ _ _ _ _ _ _ _ is c.self.invariant.1) closed c.in-Some-spawn.spawn c.in-Some-spawn.is

pub add-requires-clause-order : goal.add-requires-clause-order
add-requires-clause-order g c =
    let is = reverse-popped c.self.inside.callers.items c.deref.result.now _ c.in-Some.around.now _ c.in-Some.ensures.value c.deref.ensures.value c.deref.ensures.len refl in
    let closed = subst (λ (z : Judge). IsClosed z.scopes) (sym c.self.view_is) c.requires in
    rw c.len-end.ensures.is
    (add_order c.self.invariant.0 _ _ _ _ _ _ _ _ (turned c.self.invariant.0 _ _ _ _ _ _ _ _ is c.self.invariant.1) closed c.in-Some-spawn.spawn c.in-Some-spawn.is)

pub add-requires-clause-fixed : goal.add-requires-clause-fixed
add-requires-clause-fixed g c =
    let is = reverse-popped c.self.inside.callers.items c.deref.result.now _ c.in-Some.around.now _ c.in-Some.ensures.value c.deref.ensures.value c.deref.ensures.len refl in
    let closed = subst (λ (z : Judge). IsClosed z.scopes) (sym c.self.view_is) c.requires in
    add_fixed c.self.invariant.0 _ _ _ _ _ _ _ _ (turned c.self.invariant.0 _ _ _ _ _ _ _ _ is c.self.invariant.1) closed c.in-Some-spawn.spawn c.in-Some-spawn.is

pub invariant_of-self : goal.invariant_of-self
invariant_of-self g c =
    let is = reverse-popped c.self.inside.callers.items c.deref.result.now c.pop.new.self.items c.in-Some.around.now _ c.in-Some.ensures.value c.deref.ensures.value
    c.deref.ensures.len c.pop.ensures.rest in
    let closed = subst (λ (z : Judge). IsClosed z.scopes) (sym c.self.view_is) c.requires in (
      and_then (resumed (current c.self.invariant.0.history)) c.self.invariant.0,
      follows_resumed c.self.invariant.0 _ _ _ _ _ _ _ _ (turned c.self.invariant.0 _ _ _ _ _ _ _ _ is c.self.invariant.1) closed c.in-None-spawn.is,
    )

pub returns-in-None-spawn-clause-ok : goal.returns-in-None-spawn-clause-ok
returns-in-None-spawn-clause-ok g c run f =
    let is = reverse-popped c.self.inside.callers.items c.deref.result.now c.pop.new.self.items c.in-Some.around.now _ c.in-Some.ensures.value c.deref.ensures.value
    c.deref.ensures.len c.pop.ensures.rest in
    let closed = subst (λ (z : Judge). IsClosed z.scopes) (sym c.self.view_is) c.requires in
    inl (follows_resumed run _ _ _ _ _ _ _ _ (turned run _ _ _ _ _ _ _ _ is (subst (λ (z : Judge). Follows z run) (sym c.self.view_is) f)) closed c.in-None-spawn.is)

pub returns-in-None-spawn-clause-at_root : goal.returns-in-None-spawn-clause-at_root
returns-in-None-spawn-clause-at_root g c run f =
    let is = reverse-popped c.self.inside.callers.items c.deref.result.now _ c.in-Some.around.now _ c.in-Some.ensures.value c.deref.ensures.value c.deref.ensures.len refl in
    let closed = subst (λ (z : Judge). IsClosed z.scopes) (sym c.self.view_is) c.requires in (
      (λ e. cc),
      (λ r. absurd (not_root run _ _ _ _ _ _ _ _ (turned run _ _ _ _ _ _ _ _ is (subst (λ (z : Judge). Follows z run) (sym c.self.view_is) f)) closed r)),
    )

pub returns-in-Err-clause-at_root : goal.returns-in-Err-clause-at_root
returns-in-Err-clause-at_root g c run f =
    let is = reverse-popped c.self.inside.callers.items c.deref.result.now _ c.in-Some.around.now _ c.in-Some.ensures.value c.deref.ensures.value c.deref.ensures.len refl in
    let closed = subst (λ (z : Judge). IsClosed z.scopes) (sym c.self.view_is) c.requires in (
      (λ e. cc),
      (λ r. absurd (not_root run _ _ _ _ _ _ _ _ (turned run _ _ _ _ _ _ _ _ is (subst (λ (z : Judge). Follows z run) (sym c.self.view_is) f)) closed r)),
    )

pub invariant_of-self-in-Some-spawn : goal.invariant_of-self-in-Some-spawn
invariant_of-self-in-Some-spawn g c =
    let is = reverse-popped c.self.inside.callers.items c.deref.result.now c.pop-in-Some-spawn.new.self.items c.in-Some.around.now _ c.in-Some.ensures.value c.deref.ensures.value
    c.deref.ensures.len c.pop-in-Some-spawn.ensures.rest in
    let closed = subst (λ (z : Judge). IsClosed z.scopes) (sym c.self.view_is) c.requires in (
      and_then (ended (current c.self.invariant.0.history)) c.self.invariant.0,
      rw c.len-end.ensures.is
          (follows_ended c.self.invariant.0 _ _ _ _ _ _ _ _ (turned c.self.invariant.0 _ _ _ _ _ _ _ _ is c.self.invariant.1) closed c.in-Some-spawn.spawn c.in-Some-spawn.is
          c.add.new.self c.in-Some-spawn.spawn.site (rw c.len-end.ensures.is at c.in-Ok.ensures.ok)),
    )

pub returns-in-Ok-clause-ok : goal.returns-in-Ok-clause-ok
returns-in-Ok-clause-ok g c run f =
    let is = reverse-popped c.self.inside.callers.items c.deref.result.now c.pop-in-Some-spawn.new.self.items c.in-Some.around.now _ c.in-Some.ensures.value c.deref.ensures.value
    c.deref.ensures.len c.pop-in-Some-spawn.ensures.rest in
    let closed = subst (λ (z : Judge). IsClosed z.scopes) (sym c.self.view_is) c.requires in
    inr (rw c.len-end.ensures.is
    (follows_ended run _ _ _ _ _ _ _ _ (turned run _ _ _ _ _ _ _ _ is (subst (λ (z : Judge). Follows z run) (sym c.self.view_is) f)) closed
    c.in-Some-spawn.spawn c.in-Some-spawn.is c.add.new.self c.in-Some-spawn.spawn.site (rw c.len-end.ensures.is at c.in-Ok.ensures.ok)))

pub returns-in-Ok-clause-at_root : goal.returns-in-Ok-clause-at_root
returns-in-Ok-clause-at_root g c run f =
    let is = reverse-popped c.self.inside.callers.items c.deref.result.now _ c.in-Some.around.now _ c.in-Some.ensures.value c.deref.ensures.value c.deref.ensures.len refl in
    let closed = subst (λ (z : Judge). IsClosed z.scopes) (sym c.self.view_is) c.requires in (
      (λ e. cc),
      (λ r. absurd (not_root run _ _ _ _ _ _ _ _ (turned run _ _ _ _ _ _ _ _ is (subst (λ (z : Judge). Follows z run) (sym c.self.view_is) f)) closed r)),
    )
