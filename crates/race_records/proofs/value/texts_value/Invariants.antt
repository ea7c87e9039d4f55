use Rattle.std.proofs.Common.{◌≡◌, take, map, string_bytes}
use Rattle.serde_json.specs.View.{view}
use Rattle.race_records.specs.Values.{text_told}
use Rattle.race_records.proofs.value.texts_value.Given as goal

-- the values of the texts so far
abbrev pub invariant-loop-text : goal.invariant-loop-text
invariant-loop-text l = map view l.values.items ≡ map text_told (map string_bytes (take l.text-index l.texts))
