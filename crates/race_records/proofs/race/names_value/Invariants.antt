use Rattle.std.proofs.Common.{◌≡◌, map}
use Rattle.serde_json.specs.View.{view}
use Rattle.race_records.specs.Races.{name_told}
use Rattle.race_records.proofs.race.names_value.Given as goal

-- the values of the names so far
abbrev pub invariant-loop-name : goal.invariant-loop-name
invariant-loop-name l = map view l.values.items ≡ map (λ name. name_told name.now.items) l.yielded
