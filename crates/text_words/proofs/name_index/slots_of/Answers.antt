use Rattle.std.proofs.Common.{ap, ◌∙◌, ◌/◌}
use Rattle.text_words.specs.Slots.{slot_of, first_slot, second_slot}
use Rattle.text_words.proofs.name_index.slots_of.Goals as goal

pub returns-clause-first : goal.returns-clause-first
unfolding first_slot
returns-clause-first c = c.slot_of.ensures.slot ∙ ap (slot_of c.args.count) c.hash_of-hash.ensures

pub returns-clause-second : goal.returns-clause-second
unfolding second_slot
returns-clause-second c = c.slot_of-2.ensures.slot ∙ ap (λ hash. slot_of c.args.count (hash / 4294967296)) c.hash_of-hash.ensures
