-- An access of a record.
use Rattle.std.specs.Prelude.{ℕ, List, [], codes, Option, Some, None}
use Rattle.serde_json.specs.Data.{Data}
use Rattle.sarif_logs.specs.Reading.{words_at, count_at, items_at, object_at}
use Rattle.sarif_logs.specs.Places.{PlaceParts, place_at, nowhere}

-- an access, with the spawns and calls that led there
pub record AccessParts : Type 0 where
  pub word : List ℕ
  pub place : PlaceParts
  pub within : List Data
  pub further : ℕ

abbrev pub access_of : Data → AccessParts
access_of value = record {
  word = words_at (codes "word") value;
  place = place_at (codes "place") value;
  within = items_at (codes "within") value;
  further = count_at (codes "further") value;
}

abbrev pub access_or_none : Option Data → AccessParts
access_or_none (Some value) = access_of value
access_or_none None = record { word = []; place = nowhere; within = []; further = 0 }

-- the access that stands at this key; nothing is known of it where none stands there
abbrev pub access_at : (key : List ℕ) → Data → AccessParts
access_at key value = access_or_none (object_at key value)
