use Rattle.std.proofs.Common.{◌≡◌, List, map, take}
use Rattle.model_histories.specs.declared.answer.Entry.{Entry}
use Rattle.race_pairs.specs.Encounters.{link_at, IsLineageOf}
use Rattle.race_pairs.proofs.encounter.links_at.Given as goal

-- those so far are found
abbrev pub invariant-loop-number : goal.invariant-loop-number
invariant-loop-number l = (told : List Entry) → IsLineageOf l.lineage told → l.links.items ≡ map (link_at told) (take l.number-index l.numbers)
