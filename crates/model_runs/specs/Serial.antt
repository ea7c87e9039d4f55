-- The entries of a history in serial order, and what they did.
use Rattle.std.specs.Prelude.{◌≡◌, ◌⊎◌, ◌↔◌, ◌<◌, ℕ, suc, List, [], ◌∷◌, length, Option, Some, None, map, Contains, AllPairs}
use Rattle.model_strands.specs.History.{History}
use Rattle.model_strands.specs.SerialOrder.{IsSeriallyBefore}
use Rattle.model_histories.specs.declared.answer.Answer.{Answer}
use Rattle.model_histories.specs.declared.answer.Answer.TheVariants.{Value}
use Rattle.model_histories.specs.declared.answer.Entry.{Entry}
use Rattle.model_histories.specs.Entries.{Entries, control_part}
use Rattle.model_programs.specs.Evaluation.{Effect}

-- an entry with its number
pub record Numbered : Type 0 where
  pub number : ℕ
  pub entry : Entry

-- the entry stands in the history under this number
abbrev pub HasEntry : Entries → Numbered → Type 0
HasEntry [] wanted = ⊥
HasEntry (entry ∷ entries) wanted = (wanted ≡ record { number = suc (length entries); entry = entry }) ⊎ HasEntry entries wanted

-- the serial order of entries: that of their strands, and within one strand that of their numbers
abbrev pub AreInSerialOrder : History → Numbered → Numbered → Type 0
AreInSerialOrder history one later =
    IsSeriallyBefore history one.entry.request.strand later.entry.request.strand ⊎
    ((one.entry.request.strand ≡ later.entry.request.strand) × (one.number < later.number))

-- the list holds all entries of the history, in serial order
abbrev pub IsSerialList : Entries → List Numbered → Type 0
IsSerialList entries listed =
    AllPairs (AreInSerialOrder (control_part entries)) listed × ((one : Numbered) → Contains listed one ↔ HasEntry entries one)

-- the value that an answer gives
abbrev pub value_given : Answer → Option ℕ
value_given (Value value) = Some value
value_given answer = None

-- what an entry did: its act with its line, and the value that it was given
abbrev pub effect_of : Entry → Effect
effect_of entry = record { act = entry.request.act; line = entry.request.line; value = value_given entry.answer }

-- what all of them did, in that order
abbrev pub effects_of : List Numbered → List Effect
effects_of listed = map (λ one. effect_of one.entry) listed
