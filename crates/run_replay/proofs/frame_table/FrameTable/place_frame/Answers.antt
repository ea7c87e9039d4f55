use Rattle.std.proofs.Common.{◌≡◌, length, Some, [], ◌∷◌, ◌++◌, refl, sym, ◌∙◌, ap, subst, arith}
use Rattle.std.specs.Prelude.{slice_get}
use Rattle.run_replay.specs.Slots.{AreHeld}
use Rattle.run_replay.proofs.Slots.{held_reused, held_pushed}
use Rattle.run_replay.proofs.frame_table.FrameTable.place_frame.Goals as goal

pub returns-in-Some-clause-frames : goal.returns-in-Some-clause-frames
returns-in-Some-clause-frames g c = λ frames counted held.
    let homes = c.args.self.now.homes.items in
    let same = ap (λ slots. slots.items) c.take_free_slot.ensures.rest.0 in
    let ended = c.in-Some.ensures.ended in
    let here = subst (λ slots. AreHeld slots homes frames) (sym same) held in
    let there : slice_get c.take_free_slot.new.self.slots.items c.in-Some.home ≡ Some ended.0 = ap (λ slots. slice_get slots c.in-Some.home) same ∙ ended.1 in (
      frames ++ c.restart.new.self ∷ [],
      held_reused c.take_free_slot.new.self.slots.items homes frames here c.in-Some.home ended.0 (record { number = c.args.number; frame = c.restart.new.self }) there ended.2 (sym counted),
      record { frame = c.restart.new.self; stands = c.restart.ensures.stands; begun = c.restart.ensures.begun; pushed = refl },
    )

pub returns-in_ok-push-in-None-clause-frames : goal.returns-in_ok-push-in-None-clause-frames
returns-in_ok-push-in-None-clause-frames g c = λ frames counted held.
    let homes = c.args.self.now.homes.items in
    let slots = c.take_free_slot.new.self.slots.items in
    let same = ap (λ slots. slots.items) c.take_free_slot.ensures.rest.0 in
    let here = subst (λ slots. AreHeld slots homes frames) (sym same) held in
    let last : length slots ≡ c.len-home.result = omega (arith, c.len-home.ensures, c.take_free_slot.new.self.slots.ok) in
    let more = held_pushed slots homes frames here (record { number = c.args.number; frame = c.new-frame.result }) (sym counted) in (
      frames ++ c.new-frame.result ∷ [],
      subst (λ slots. AreHeld slots (homes ++ c.len-home.result ∷ []) (frames ++ c.new-frame.result ∷ [])) {x = slots ++ record { number = c.args.number; frame = c.new-frame.result } ∷ []}
          (sym c.in_ok-push-in-None.ensures.items)
          (subst (λ home. AreHeld (slots ++ record { number = c.args.number; frame = c.new-frame.result } ∷ []) (homes ++ home ∷ []) (frames ++ c.new-frame.result ∷ [])) last more),
      record { frame = c.new-frame.result; stands = c.new-frame.ensures.stands; begun = c.new-frame.ensures.begun; pushed = refl },
    )

pub returns-in-Some-clause-rest : goal.returns-in-Some-clause-rest
returns-in-Some-clause-rest g c = (c.take_free_slot.ensures.rest.1, c.take_free_slot.ensures.rest.2)

pub returns-in_ok-push-in-None-clause-rest : goal.returns-in_ok-push-in-None-clause-rest
returns-in_ok-push-in-None-clause-rest g c = (c.take_free_slot.ensures.rest.1, c.take_free_slot.ensures.rest.2)
