use Rattle.std.proofs.Common.{map, arith}
use Rattle.text_words.proofs.SlotLemmas.{now_of, at_index, stored_turn}
use Rattle.text_words.proofs.name_index.slots_for.Goals as goal

pub loop-number-preserved : goal.loop-number-preserved
loop-number-preserved g c =
    let slots = c.loop-number.slots in
    stored_turn (map now_of c.args.names.now) c.args.count slots.len slots.items c.as_mut_slice.result.now c.store.new.slots
    c.args.overflow.now c.loop-number.overflow c.store.new.overflow c.loop-number.number _ c.requires.numbered c.as_mut_slice.ensures.value (omega (arith, slots.ok.0))
    c.loop-number.invariant (at_index c.args.names.now c.loop-number.number _ c.loop-number-test.true)
    c.store.ensures.count c.in_ok-store.ensures.stored c.store.ensures.kept c.store.ensures.adds
