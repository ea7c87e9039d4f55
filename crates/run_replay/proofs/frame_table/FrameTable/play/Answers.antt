use Rattle.std.proofs.Common.{◌≡◌, length, Some, refl, ap, rules}
use Rattle.std.specs.Prelude.{slice_get}
use Rattle.std.proofs.lemmas.Option.{slice_get_read}
use Rattle.program_text.specs.Shapes.{shape_in}
use Rattle.run_replay.proofs.Frames.{no_split}
use Rattle.run_replay.proofs.Openings.{place_misfit}
use Rattle.run_replay.proofs.Played.{slot_stands, slot_misfit, calm_in, split_in, targeted_in, plays_same}
use Rattle.run_replay.proofs.Told.{always_ok}
use Rattle.run_replay.proofs.frame_table.FrameTable.play.Goals as goal
use Rattle.run_replay.proofs.frame_table.FrameTable.play.Goals.{in_default-2-via-in-Some+in_default, in_default-2-via-in_default}

pub returns-in_default-clause-strange : goal.returns-in_default-clause-strange
returns-in_default-clause-strange g c =
    λ state plays e. place_misfit c.args.program.now.functions (shape_in c.args.program.now) state plays.0 c.args.self.now.places.items plays.2 c.args.entry c.in_default.ensures

pub advance_slot-requires : goal.advance_slot-requires
advance_slot-requires g c =
    let slots = c.args.self.now.slots.items in
    let slot_is : slice_get slots c.in-Some.home ≡ Some c.index_mut.result.now =
    slice_get_read slots (length slots) c.in-Some.home c.index_mut.result.now refl c.in-Some.ensures.2 c.index_mut.ensures.value in
    record {
      stands = slot_stands c.args.program.now.functions (shape_in c.args.program.now) c.requires.plays.0 slots c.args.self.now.homes.items
          c.args.self.now.places.items c.requires.plays.1 c.args.entry c.in-Some.place c.in-Some.ensures.0 c.in-Some.home c.in-Some.ensures.1 c.index_mut.result.now slot_is;
    }

pub returns-in_err-target-clause-strange : goal.returns-in_err-target-clause-strange
returns-in_err-target-clause-strange g c =
    let slots = c.args.self.now.slots.items in
    let slot_is : slice_get slots c.in-Some.home ≡ Some c.index_mut.result.now =
    slice_get_read slots (length slots) c.in-Some.home c.index_mut.result.now refl c.in-Some.ensures.2 c.index_mut.ensures.value in
    λ state plays e. slot_misfit c.args.program.now.functions (shape_in c.args.program.now) state slots c.args.self.now.homes.items
    c.args.self.now.places.items plays c.args.entry c.in-Some.place c.in-Some.ensures.0 c.in-Some.home c.in-Some.ensures.1 c.index_mut.result.now slot_is
    (c.advance_slot.ensures.strange (search (rules, c.in_err-target.was, c.in_err-target.is, c.from_residual.ensures, e)))

pub returns-in-Ok-clause-ok : goal.returns-in-Ok-clause-ok
returns-in-Ok-clause-ok g c =
    let slots = c.args.self.now.slots.items in
    let slot_is : slice_get slots c.in-Some.home ≡ Some c.index_mut.result.now =
    slice_get_read slots (length slots) c.in-Some.home c.index_mut.result.now refl c.in-Some.ensures.2 c.index_mut.ensures.value in
    λ state next plays entered.
    split_in c.args.program.now.functions (shape_in c.args.program.now) state slots c.args.self.now.homes.items c.args.self.now.places.items plays c.args.entry
    c.in-Some.place c.in-Some.ensures.0 c.in-Some.home c.in-Some.ensures.1 c.index_mut.result.now slot_is c.advance_slot.new.slot c.in_ok-target.target next
    c.in_ok-target.ensures.ok entered c.in-Some-Split.strands c.in-Some-Split.is-1 c.in-Some-Split.target c.in-Some-Split.is-0 c.begin.new.self.slots.items
    c.begin.new.self.homes.items c.in-Ok.ensures.frames c.begin.new.self.places.items c.in-Ok.ensures.places

pub returns-in_default-2-clause-ok : goal.returns-in_default-2-clause-ok
returns-in_default-2-clause-ok g c =
    let functions = c.args.program.now.functions in
    let shape = shape_in c.args.program.now in
    let slots = c.args.self.now.slots.items in
    let homes = c.args.self.now.homes.items in
    let places = c.args.self.now.places.items in
    let slot_is : slice_get slots c.in-Some.home ≡ Some c.index_mut.result.now =
    slice_get_read slots (length slots) c.in-Some.home c.index_mut.result.now refl c.in-Some.ensures.2 c.index_mut.ensures.value in
    λ state next plays entered.
    let calm = calm_in functions shape state slots homes places plays c.args.entry c.in-Some.place c.in-Some.ensures.0 c.in-Some.home c.in-Some.ensures.1
    c.index_mut.result.now slot_is c.advance_slot.new.slot c.in_ok-target.target next c.in_ok-target.ensures.ok entered
    (elim c.in_default-2.branch [
      | in_default-2-via-in-Some+in_default w ↦ no_split c.args.entry.answer w.in_default-2.not-Split-1
      | in_default-2-via-in_default w ↦ no_split c.args.entry.answer (λ strands split. targeted_in functions shape state slots homes places plays c.args.entry
          c.in-Some.place c.in-Some.ensures.0 c.in-Some.home c.in-Some.ensures.1 c.index_mut.result.now slot_is c.advance_slot.new.slot c.in_ok-target.target next
          c.in_ok-target.ensures.ok entered strands split w.in_default-2.is-0)
    ]) in
    always_ok c.vacate.result _
    (plays_same functions shape next _ c.vacate.new.self.slots.items _ c.vacate.new.self.homes.items _ c.vacate.new.self.places.items (ap (λ v. v.items) c.vacate.ensures.rest.0)
    (ap (λ v. v.items) c.vacate.ensures.rest.1) (ap (λ v. v.items) c.vacate.ensures.rest.2) calm)

pub returns-in_default-clause-ok : goal.returns-in_default-clause-ok
returns-in_default-clause-ok g c = λ state next plays entered. tt

pub returns-in-Ok-clause-strange : goal.returns-in-Ok-clause-strange
returns-in-Ok-clause-strange g c = λ state plays e. absurd (cc)

pub returns-in-Err-clause-ok : goal.returns-in-Err-clause-ok
returns-in-Err-clause-ok g c = λ state next plays entered. tt

pub returns-in-Err-clause-strange : goal.returns-in-Err-clause-strange
returns-in-Err-clause-strange g c = λ state plays e. absurd (cc)
