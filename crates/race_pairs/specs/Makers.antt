-- Which entry made each strand.
use Rattle.std.specs.Prelude.{◌≡◌, ◌⊎◌, ℕ, suc, true, false, [], ◌∷◌, length, Option, Some}
use Rattle.model_accesses.specs.declared.request.Act.TheVariants.{Spawn}
use Rattle.model_strands.specs.declared.spawned.Spawned.{Spawned}
use Rattle.model_strands.specs.Updated.{updated}
use Rattle.model_strands.specs.History.{Event, split}
use Rattle.model_histories.specs.declared.answer.Answer.TheVariants.{Split}
use Rattle.model_histories.specs.declared.answer.Entry.{Entry}
use Rattle.model_histories.specs.Entries.{Entries, event_of}

-- the entry has this number
abbrev pub HasNumber : Entries → ℕ → Entry → Type 0
HasNumber [] number one = ⊥
HasNumber (entry ∷ entries) number one = (number ≡ suc (length entries)) × (one ≡ entry) ⊎ HasNumber entries number one

-- the entry is a spawn, which began these
abbrev pub Began : Entry → Spawned → Type 0
Began entry spawned = (entry.request.act ≡ Spawn) × (entry.answer ≡ Split spawned)

-- the entry with this number is a spawn by the strand, which began these
abbrev pub IsSpawn : Entries → ℕ → ℕ → Spawned → Type 0
IsSpawn entries number spawner spawned =
    (entry : Entry) × HasNumber entries number entry × (entry.request.strand ≡ spawner) × Began entry spawned

-- the makers of strands after an event with this number, which a split is of its child, its next and, where it is its block's first, its
-- join
abbrev pub with_maker : Option Event → ℕ → (ℕ → ℕ) → ℕ → ℕ
with_maker (Some (split strand child next join true)) number makers =
    updated (updated (updated makers child number) next number) join number
with_maker (Some (split strand child next join false)) number makers = updated (updated makers child number) next number
with_maker event number makers = makers

-- the number of the entry that made the strand or reserved it as a join, and 0 for strand 0
abbrev pub maker : Entries → ℕ → ℕ
maker [] = λ strand. 0
maker (entry ∷ entries) = with_maker (event_of entry) (suc (length entries)) (maker entries)
