use Rattle.std.proofs.Common.{◌≡◌, length, map}
use Rattle.text_words.specs.Slots.{AreStored, IsOverflow, KeepsOverflow}
use Rattle.text_words.proofs.SlotLemmas.{now_of}
use Rattle.text_words.proofs.name_index.slots_for.Given as goal

abbrev pub invariant-loop-number : goal.invariant-loop-number
invariant-loop-number g l =
    (length l.slots.items ≡ l.count) × AreStored l.number (map now_of l.names) l.slots.items l.overflow
    × IsOverflow (map now_of l.names) l.overflow × KeepsOverflow l.initial.overflow l.overflow
