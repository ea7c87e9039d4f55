-- Records of accesses, and where the last one of a site and a kind is noted.
use Rattle.std.specs.Prelude.{◌≡◌, ◌⊎◌, ◌+◌, ◌*◌, ◌<◌, ◌≤◌, ℕ, suc, List, [], ◌∷◌, ◌++◌, length, Some, slice_index}
use Rattle.model_serial_runs.specs.declared.access_kind.AccessKind.{AccessKind}
use Rattle.model_serial_runs.specs.declared.access_kind.AccessKind.TheVariants.{Read, Load, Update, Write}
use Rattle.serial_judge.specs.declared.records.Record.{Record}
use Rattle.serial_judge.specs.Numbers.{numbered}

-- so many records there are at most
abbrev pub most_records : ℕ
most_records = 1_073_741_824

abbrev pub place_of_kind : AccessKind → ℕ
place_of_kind Read = 0
place_of_kind Load = 1
place_of_kind Update = 2
place_of_kind Write = 3

-- where the last record of its site and kind is noted
abbrev pub place_of : Record → ℕ
place_of made = made.site * 4 + place_of_kind made.kind

-- what is noted there is 0 or a record of that place
abbrev pub IsNoted : List Record → ℕ → ℕ → Type 0
IsNoted records place number = (number ≡ 0) ⊎ ((made : Record) × (numbered records number ≡ Some made) × (place_of made ≡ place))

abbrev pub AreNoted : List Record → List ℕ → Type 0
AreNoted records notes = (place : ℕ) → place < length notes → IsNoted records place (slice_index notes place)

-- the number is that of such a record, not before the first, which was there or is the new one
pub record IsNumberFor (old new : List Record) (first : ℕ) (made : Record) (number : ℕ) : Type 0 where
  pub from_first : first ≤ number
  pub small : number ≤ most_records
  pub is : numbered new number ≡ Some made
  pub made_or_there : (new ≡ old) ⊎ ((new ≡ old ++ made ∷ []) × (number ≡ suc (length old)))
