use Rattle.std.proofs.Common.{◌≡◌, length, Some, refl, sym, ◌∙◌, ap, arith}
use Rattle.std.specs.Prelude.{slice_get}
use Rattle.std.proofs.lemmas.Option.{slice_get_read}
use Rattle.run_replay.proofs.Played.{housed, slot_there}
use Rattle.run_replay.proofs.frame_table.FrameTable.find_slot.Goals as goal

pub index-requires : goal.index-requires
index-requires g c =
    let strand = c.args.entry.request.strand in
    let place = c.in_ok-place.field-0.now in
    let some : slice_get c.deref.result.now strand ≡ Some place =
    slice_get_read c.deref.result.now (length c.deref.result.now) strand place refl c.in_ok-place.ensures.lookup.3.0 c.in_ok-place.ensures.lookup.1 in
    let its_place = ap (λ l. slice_get l strand) (sym c.deref.ensures.value) ∙ some in
    let (functions, shape, state, plays) = c.requires.plays in
    let there = housed functions shape state c.args.self.now.slots.items c.args.self.now.homes.items c.args.self.now.places.items plays c.args.entry place its_place in
    omega (arith, there, c.args.self.now.homes.ok)

pub returns : goal.returns
returns g c =
    let strand = c.args.entry.request.strand in
    let place = c.in_ok-place.field-0.now in
    let some : slice_get c.deref.result.now strand ≡ Some place =
    slice_get_read c.deref.result.now (length c.deref.result.now) strand place refl c.in_ok-place.ensures.lookup.3.0 c.in_ok-place.ensures.lookup.1 in
    let its_place = ap (λ l. slice_get l strand) (sym c.deref.ensures.value) ∙ some in
    let (functions, shape, state, plays) = c.requires.plays in
    let slots = c.args.self.now.slots.items in
    let homes = c.args.self.now.homes.items in
    let places = c.args.self.now.places.items in
    let home = c.index.result.now in
    let below = housed functions shape state slots homes places plays c.args.entry place its_place in
    let home_is : slice_get homes place ≡ Some home = slice_get_read homes (length homes) place home refl below c.index.ensures in
    (its_place, home_is, slot_there functions shape state slots homes places plays c.args.entry place its_place home home_is)
