use Rattle.std.proofs.Common.{[], ◌∷◌, refl, sym, subst, rules}
use Rattle.run_replay.specs.Slots.{AreHeld}
use Rattle.run_replay.proofs.Slots.{held_alone}
use Rattle.run_replay.proofs.frame_table.FrameTable.open.Goals as goal

pub returns : goal.returns
returns g c =
    let frame = c.new-frame.result in (
      frame ∷ [],
      subst (λ slots. AreHeld slots c.in_ok-homes.homes.items (frame ∷ [])) (sym c.in_ok-slots.ensures)
          (subst (λ homes. AreHeld (record { number = 0; frame = frame } ∷ []) homes (frame ∷ [])) (sym c.in_ok-homes.ensures) (held_alone (record { number = 0; frame = frame }) refl)),
      record {
        main = c.main.result;
        is_main = search rules;
        gate_is = refl;
        frame = frame;
        stands = c.new-frame.ensures.stands;
        begun = c.new-frame.ensures.begun;
        frames_are = refl;
        places_are = c.in_ok-places.ensures;
      },
    )
