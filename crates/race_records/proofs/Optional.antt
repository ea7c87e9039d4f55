-- A number that may lack.
use Rattle.std.proofs.Common.{◌≡◌, ℕ, Some, None}
use Rattle.std.specs.Prelude.{Option, MatchOption}
use Rattle.serde_json.specs.Data.{Data, null}
use Rattle.race_records.specs.Values.{count_told, number_or_null}

pub number_told : (count : Option ℕ) {told : Data} → MatchOption count (told ≡ null) (λ number. told ≡ count_told number) → told ≡ number_or_null count
number_told (Some number) is = is
number_told None is = is
