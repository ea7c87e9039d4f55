use Rattle.std.proofs.Common.{◌≡◌, ◌++◌, ◌∷◌, [], length, sym, ap, subst, arith}
use Rattle.run_replay.specs.Slots.{AreHeld}
use Rattle.run_replay.proofs.Told.{always_ok}
use Rattle.run_replay.proofs.frame_table.FrameTable.begin.Goals as goal

pub returns-clause-frames : goal.returns-clause-frames
returns-clause-frames g c = always_ok c.add_places.result _ (λ frames held.
    let counted : length frames ≡ c.len-child.result = omega (arith, held.counted, c.len-child.ensures) in
    let next = c.in_ok-home.ensures.frames frames counted held in
    let pushed = c.in_ok-push.ensures.items in
    let same = ap (λ list. list.items) c.in_ok-home.ensures.rest.0 in
    let small = c.in_ok-to_u32.ensures in
    let homes : c.push.new.self.items ≡ c.args.self.now.homes.items ++ c.in_ok-home.home ∷ [] = cc in
    (next.0, subst (λ list. AreHeld c.place_frame.new.self.slots.items list next.0) (sym homes) next.1, next.2))
