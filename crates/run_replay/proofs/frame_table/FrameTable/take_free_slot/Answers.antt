use Rattle.std.proofs.Common.{length, refl, sym, ◌∙◌, ap}
use Rattle.std.specs.Prelude.{slice_get}
use Rattle.std.proofs.lemmas.Option.{slice_get_read}
use Rattle.run_replay.proofs.frame_table.FrameTable.take_free_slot.Goals as goal

pub returns-then-is_over-clause-ended : goal.returns-then-is_over-clause-ended
returns-then-is_over-clause-ended g c =
    let slots = c.deref.result.now in
    let home = c.in_ok-home.home in
    let some = slice_get_read slots (length slots) home c.in-Some.slot.now refl c.in-Some.ensures.lookup.3.0 c.in-Some.ensures.lookup.1 in
    (c.in-Some.slot.now, ap (λ list. slice_get list home) (sym c.deref.ensures.value) ∙ some, c.is_over.ensures.over.0 c.if-is_over.true)
