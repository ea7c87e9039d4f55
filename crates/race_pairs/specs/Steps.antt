-- What an entry adds to a lineage.
use Rattle.std.specs.Prelude.{◌≡◌}
use Rattle.model_accesses.specs.declared.request.Act.TheVariants.{Call, Return}
use Rattle.model_strands.specs.declared.spawned.Spawned.{Spawned}
use Rattle.model_histories.specs.declared.answer.Answer.TheVariants.{Same, Resumed}
use Rattle.model_histories.specs.declared.answer.Entry.{Entry}
use Rattle.race_pairs.specs.declared.growth.Step.{Step}
use Rattle.race_pairs.specs.declared.growth.Step.TheVariants.{Spawns, Calls, Returns, Stays}
use Rattle.race_pairs.specs.Makers.{Began}

abbrev pub IsStep : Entry → Step → Type 0
IsStep entry (Spawns spawned) = Began entry spawned
IsStep entry Calls = (entry.request.act ≡ Call) × (entry.answer ≡ Same)
IsStep entry Returns = (entry.request.act ≡ Return) × (entry.answer ≡ Resumed)
IsStep entry Stays =
    ((spawned : Spawned) → Began entry spawned → ⊥) × (entry.request.act ≡ Call → entry.answer ≡ Same → ⊥) ×
    (entry.request.act ≡ Return → entry.answer ≡ Resumed → ⊥)
