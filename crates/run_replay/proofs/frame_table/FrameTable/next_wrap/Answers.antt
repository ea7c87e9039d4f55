use Rattle.std.proofs.Common.{◌≡◌, length, Some, refl}
use Rattle.std.specs.Prelude.{slice_get}
use Rattle.std.proofs.lemmas.Option.{slice_get_read}
use Rattle.program_text.specs.Shapes.{shape_in}
use Rattle.run_replay.proofs.Played.{slot_stands}
use Rattle.run_replay.proofs.Wrapped.{has_place, slot_wraps}
use Rattle.run_replay.proofs.frame_table.FrameTable.next_wrap.Goals as goal

pub returns-in_err-place : goal.returns-in_err-place
returns-in_err-place g c =
    λ state next plays entered index.
    absurd (has_place c.args.program.now.functions (shape_in c.args.program.now) state plays.0 c.args.self.now.places.items plays.2 c.args.entry next entered
    c.in_err-place.ensures)

pub slot_wrap-requires : goal.slot_wrap-requires
slot_wrap-requires g c =
    let slots = c.args.self.now.slots.items in
    let found = c.in_ok-place.ensures in
    let slot_is : slice_get slots c.in_ok-place.home ≡ Some c.index.result.now =
    slice_get_read slots (length slots) c.in_ok-place.home c.index.result.now refl found.2 c.index.ensures in
    record {
      stands = slot_stands c.args.program.now.functions (shape_in c.args.program.now) c.requires.plays.0 slots c.args.self.now.homes.items
          c.args.self.now.places.items c.requires.plays.1 c.args.entry c.in_ok-place.place found.0 c.in_ok-place.home found.1 c.index.result.now slot_is;
    }

pub returns : goal.returns
returns g c =
    let slots = c.args.self.now.slots.items in
    let found = c.in_ok-place.ensures in
    let slot_is : slice_get slots c.in_ok-place.home ≡ Some c.index.result.now =
    slice_get_read slots (length slots) c.in_ok-place.home c.index.result.now refl found.2 c.index.ensures in
    λ state next plays entered.
    slot_wraps c.args.program.now.functions (shape_in c.args.program.now) state slots c.args.self.now.homes.items c.args.self.now.places.items plays c.args.entry
    c.in_ok-place.place found.0 c.in_ok-place.home found.1 c.index.result.now slot_is c.slot_wrap.result c.slot_wrap.ensures.own c.slot_wrap.ensures.lost
